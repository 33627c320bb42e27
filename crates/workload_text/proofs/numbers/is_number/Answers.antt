use Rattle.std.proofs.Common.{refl}
use Rattle.workload_text.proofs.NumberLemmas.{number_is}
use Rattle.workload_text.proofs.numbers.is_number.Goals as goal

pub returns-in-Value : goal.returns-in-Value
returns-in-Value c = rw (number_is c.args.word.now c.in-Value.value c.in-Value.ensures.value c.in-Value.ensures.fits) refl

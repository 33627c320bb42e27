use Rattle.summary_text.proofs.CountLemmas.{constraint-counted}
use Rattle.summary_text.proofs.laws.constraints_are_counted_one_by_one.Goals as goal

pub returns : goal.returns
returns c = constraint-counted

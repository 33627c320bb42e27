use Rattle.std.proofs.Common.{ap, ◌∙◌}
use Rattle.std.specs.FinSet as set
use Rattle.bit_rows.proofs.WordLemmas.{bit_inserted}
use Rattle.bit_rows.proofs.bit_row.BitRow.set.Goals as goal

pub returns : goal.returns
returns g c = bit_inserted c.self.inside.words c.set_bit.new.words c.args.n c.set_bit.ensures.here c.set_bit.ensures.others ∙ ap (λ s. set.insert s c.args.n) c.self.view_is

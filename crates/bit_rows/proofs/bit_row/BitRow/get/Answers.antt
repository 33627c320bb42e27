use Rattle.std.proofs.Common.{sym, ap, ◌∙◌}
use Rattle.bit_rows.specs.Sets.{has}
use Rattle.bit_rows.proofs.WordLemmas.{has-set_of}
use Rattle.bit_rows.proofs.bit_row.BitRow.get.Goals as goal

pub returns : goal.returns
returns g c = c.has_bit.ensures ∙ (sym (has-set_of c.self.inside.words c.args.n) ∙ ap (λ s. has s c.args.n) c.self.view_is)

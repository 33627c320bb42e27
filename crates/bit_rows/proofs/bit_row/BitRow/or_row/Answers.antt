use Rattle.std.proofs.Common.{◌∙◌}
use Rattle.std.specs.FinSet as set
use Rattle.bit_rows.proofs.WordLemmas.{bits_joined}
use Rattle.bit_rows.proofs.bit_row.BitRow.or_row.Goals as goal

pub returns : goal.returns
returns g c = bits_joined c.self.inside.words c.other.inside.words c.or_words.new.words c.or_words.ensures ∙ (λ i. set.union (c.self.view_is i) (c.other.view_is i))

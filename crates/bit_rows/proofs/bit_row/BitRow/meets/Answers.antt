use Rattle.bit_rows.proofs.WordLemmas.{bits_meet}
use Rattle.bit_rows.proofs.bit_row.BitRow.meets.Goals as goal

pub returns : goal.returns
returns g c =
    let meet = bits_meet c.self.inside.words c.other.inside.words in
    rw (← c.self.view_is, ← c.other.view_is) (λ is. meet.0 (c.words_meet.ensures.0 is), λ is. c.words_meet.ensures.1 (meet.1 is))

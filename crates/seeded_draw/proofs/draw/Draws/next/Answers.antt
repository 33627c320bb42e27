use Rattle.std.proofs.Common.{◌+◌, ◌∙◌, ap, arith}
use Rattle.seeded_draw.specs.Draw.{word}
use Rattle.seeded_draw.proofs.DrawLemmas.{nth_word-zero, nth_word-left}
use Rattle.seeded_draw.proofs.draw.Draws.next.Goals as goal

pub invariant_of-self : goal.invariant_of-self
invariant_of-self c k = nth_word-left _ _ _ k c.next_word.ensures ∙ c.self.invariant (k + 1) ∙ ap (word _ _) (omega arith)

pub returns-clause-value : goal.returns-clause-value
returns-clause-value c =
    nth_word-zero _ _ _ c.next_word.ensures ∙ c.self.invariant 0 ∙ rw (← c.self.view_is) (ap (word _ _) (omega arith))

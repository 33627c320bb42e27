use Rattle.std.proofs.Common.{◌∙◌}
use Rattle.seeded_draw.proofs.DrawLemmas.{nth_word-start, nth_word-advance}
use Rattle.seeded_draw.proofs.draw.generator_at.Goals as goal

pub returns : goal.returns
returns c n = rw (c.advance.ensures, c.from-2.ensures, c.new-generator.ensures, c.from.ensures) (nth_word-advance _ _ _ ∙ nth_word-start _ _ _)

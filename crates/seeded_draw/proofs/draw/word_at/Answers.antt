use Rattle.std.proofs.Common.{◌∙◌, ap, arith}
use Rattle.seeded_draw.specs.Draw.{word}
use Rattle.seeded_draw.proofs.DrawLemmas.{nth_word-zero}
use Rattle.seeded_draw.proofs.draw.word_at.Goals as goal

pub returns : goal.returns
returns c = nth_word-zero _ _ _ c.next_word.ensures ∙ c.generator_at.ensures 0 ∙ ap (word _ _) (omega arith)

use Rattle.query_draw.proofs.PutLemmas.{word_some, word_few}
use Rattle.query_draw.proofs.words.draw_word.Goals as goal

pub end_word-requires-clause-some : goal.end_word-requires-clause-some
end_word-requires-clause-some c = word_some _ _ _ _ _ _ _ _ c.in_ok-draw_symbols.ensures c.draw_length-len.ensures.some

pub returns-clause-few : goal.returns-clause-few
returns-clause-few c = word_few _ _ _ _ _ _ _ _ _ c.in_ok-draw_symbols.ensures c.in_ok-end_word.ensures c.draw_length-len.ensures.few

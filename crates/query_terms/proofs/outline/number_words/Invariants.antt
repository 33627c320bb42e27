use Rattle.std.proofs.Common.{◌≡◌, take, fold}
use Rattle.query_terms.specs.Lists.{words_in}
use Rattle.query_terms.specs.Outline.{after_word}
use Rattle.query_terms.proofs.outline.number_words.Given as goal

-- the words so far are numbered
abbrev pub invariant-loop-word : goal.invariant-loop-word
invariant-loop-word l = l.numbering ≡ fold (after_word l.labels) l.fn.numbering (words_in l.symbols (take l.word-index l.words))

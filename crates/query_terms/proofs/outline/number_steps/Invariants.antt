use Rattle.std.proofs.Common.{◌≡◌, take, fold}
use Rattle.query_terms.specs.Outline.{after_symbol}
use Rattle.query_terms.proofs.outline.number_steps.Given as goal

-- the steps so far are numbered
abbrev pub invariant-loop-symbol : goal.invariant-loop-symbol
invariant-loop-symbol l = l.numbering ≡ fold (after_symbol l.labels) l.fn.numbering (take l.symbol-index l.word)

use Rattle.std.proofs.Common.{◌≡◌, take}
use Rattle.query_terms.specs.Lists.{conjuncts_in}
use Rattle.query_terms.specs.Outline.{after_conjuncts}
use Rattle.query_terms.proofs.outline.number_terms.Given as goal

-- the conjuncts so far are numbered
abbrev pub invariant-loop-conjunct : goal.invariant-loop-conjunct
invariant-loop-conjunct l = l.numbering ≡ after_conjuncts l.labels (conjuncts_in l.symbols l.words (take l.conjunct-index l.conjuncts))

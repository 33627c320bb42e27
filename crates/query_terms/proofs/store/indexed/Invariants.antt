use Rattle.std.proofs.Common.{◌≡◌, take}
use Rattle.query_terms.specs.Kept.{terms_in}
use Rattle.query_terms.proofs.store.indexed.Given as goal

-- the index has the terms so far
abbrev pub invariant-loop-n : goal.invariant-loop-n
invariant-loop-n l = l.index ≡ take l.n (terms_in l.terms)

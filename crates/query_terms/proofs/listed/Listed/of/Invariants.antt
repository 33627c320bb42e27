use Rattle.std.proofs.Common.{◌≡◌, take}
use Rattle.query_terms.proofs.listed.Listed.of.Given as goal

-- the terms so far are listed
abbrev pub invariant-loop-term : goal.invariant-loop-term
invariant-loop-term l = l.listing ≡ take l.term-index l.terms

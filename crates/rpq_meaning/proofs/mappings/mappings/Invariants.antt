use Rattle.std.proofs.Common.{◌≡◌, take}
use Rattle.rpq_meaning.specs.Joins.{mappings}
use Rattle.rpq_meaning.proofs.mappings.mappings.Given as goal

abbrev pub invariant-loop-c : goal.invariant-loop-c
invariant-loop-c l = l.all.items ≡ mappings l.tables (take l.c-index l.conjuncts)

use Rattle.std.proofs.Common.{◌≡◌, drop}
use Rattle.rpq_meaning.specs.Joins.{assigned}
use Rattle.rpq_meaning.proofs.mappings.assigned.Given as goal

abbrev pub invariant-loop-entry : goal.invariant-loop-entry
invariant-loop-entry l = assigned (drop l.entry-index l.m) l.v ≡ assigned l.m l.v

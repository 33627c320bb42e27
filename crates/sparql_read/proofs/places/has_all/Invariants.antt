use Rattle.std.proofs.Common.{◌≡◌, length}
use Rattle.sparql_read.specs.Query.{texts, entries_view, entries_have_all}
use Rattle.sparql_read.proofs.places.has_all.Given as goal

abbrev pub invariant-loop-rest : goal.invariant-loop-rest
invariant-loop-rest l = entries_have_all (texts l.rest) (entries_view l.patterns) ≡ entries_have_all (texts l.heads) (entries_view l.patterns)

abbrev pub decreases-loop-rest : goal.decreases-loop-rest
decreases-loop-rest l = length l.rest

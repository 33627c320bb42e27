use Rattle.std.proofs.Common.{◌≡◌, length}
use Rattle.sparql_read.specs.Query.{entries_view, occurs_in_entries}
use Rattle.sparql_read.proofs.places.occurs.Given as goal

abbrev pub invariant-loop-rest : goal.invariant-loop-rest
invariant-loop-rest l = occurs_in_entries l.head (entries_view l.rest) ≡ occurs_in_entries l.head (entries_view l.patterns)

abbrev pub decreases-loop-rest : goal.decreases-loop-rest
decreases-loop-rest l = length l.rest

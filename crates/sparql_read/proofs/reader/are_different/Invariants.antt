use Rattle.std.proofs.Common.{◌≡◌, length}
use Rattle.sparql_read.specs.Text.{are_different}
use Rattle.sparql_read.specs.Query.{texts}
use Rattle.sparql_read.proofs.reader.are_different.Given as goal

abbrev pub invariant-loop-rest : goal.invariant-loop-rest
invariant-loop-rest l = are_different (texts l.rest) ≡ are_different (texts l.heads)

abbrev pub decreases-loop-rest : goal.decreases-loop-rest
decreases-loop-rest l = length l.rest

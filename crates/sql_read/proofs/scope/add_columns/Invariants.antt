use Rattle.sql_read.proofs.ScopeLemmas.{Columns}
use Rattle.sql_read.proofs.scope.add_columns.Given as goal

abbrev pub invariant-loop-i : goal.invariant-loop-i
invariant-loop-i l = Columns l.fn.scope l.scope l.number l.names l.i

abbrev pub decreases-loop-i : goal.decreases-loop-i
decreases-loop-i l = l.i

use Rattle.std.proofs.Common.{◌≡◌, length}
use Rattle.sql_mean.specs.Evaluation.{rows_under}
use Rattle.sql_mean.proofs.known.rows_under.Given as goal

abbrev pub invariant-loop-rest : goal.invariant-loop-rest
invariant-loop-rest l = rows_under l.rest l.name ≡ rows_under l.known l.name

abbrev pub decreases-loop-rest : goal.decreases-loop-rest
decreases-loop-rest l = length l.rest

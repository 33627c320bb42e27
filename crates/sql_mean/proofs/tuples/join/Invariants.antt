use Rattle.std.proofs.Common.{◌≡◌}
use Rattle.sql_mean.specs.Evaluation.{joined}
use Rattle.sql_mean.proofs.tuples.join.Given as goal

abbrev pub invariant-loop-row : goal.invariant-loop-row
invariant-loop-row l = l.rows.items ≡ joined l.initial.rows.items l.yielded

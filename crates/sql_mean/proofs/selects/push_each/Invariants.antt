use Rattle.std.proofs.Common.{◌≡◌, ◌++◌, map, take}
use Rattle.sql_mean.specs.Evaluation.{with_row}
use Rattle.sql_mean.proofs.selects.push_each.Given as goal

abbrev pub invariant-loop-row : goal.invariant-loop-row
invariant-loop-row l = l.out.items ≡ l.initial.out.items ++ map (with_row l.product) (take l.row-index l.rows)

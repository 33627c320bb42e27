use Rattle.std.proofs.Common.{◌≡◌, map, length}
use Rattle.sql_read.specs.View.{name_view}
use Rattle.sql_mean.specs.Selects.{value_in}
use Rattle.sql_mean.proofs.values.value_in.Given as goal

abbrev pub invariant-loop-columns : goal.invariant-loop-columns
invariant-loop-columns l = value_in (map name_view l.columns) l.row l.name ≡ value_in (map name_view l.fn.columns) l.fn.row l.name

abbrev pub decreases-loop-columns : goal.decreases-loop-columns
decreases-loop-columns l = length l.columns

use Rattle.std.proofs.Common.{◌≡◌, true, length, take}
use Rattle.std.specs.List.{flat_map, list_all}
use Rattle.graph_text.specs.Rows.{values_of, is_row}
use Rattle.sparql_mean.specs.Joins.{group_rows}
use Rattle.sparql_mean.proofs.queries.rows_of.Given as goal

abbrev pub invariant-loop-g : goal.invariant-loop-g
invariant-loop-g l = record {
  values : values_of l.rows.items ≡ flat_map (group_rows l.tables l.query.variables l.query.patterns) (take l.g l.query.groups);
  rows : list_all (is_row (length l.query.variables)) l.rows.items ≡ true;
}

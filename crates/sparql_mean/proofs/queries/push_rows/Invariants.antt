use Rattle.std.proofs.Common.{◌≡◌, ◌++◌, true, length, take}
use Rattle.std.specs.List.{flat_map, list_all}
use Rattle.graph_text.specs.Rows.{values_of, is_row}
use Rattle.sparql_mean.specs.Joins.{row_of}
use Rattle.sparql_mean.proofs.queries.push_rows.Given as goal

abbrev pub invariant-loop-m : goal.invariant-loop-m
invariant-loop-m l = record {
  values : values_of l.rows.items ≡ values_of l.initial.rows.items ++ flat_map (row_of l.query.variables) (take l.m-index l.all);
  rows : list_all (is_row (length l.query.variables)) l.rows.items ≡ true;
}

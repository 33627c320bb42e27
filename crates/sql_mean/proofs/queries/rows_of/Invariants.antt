use Rattle.std.proofs.Common.{◌≡◌, true, take}
use Rattle.std.specs.List.{list_all}
use Rattle.graph_text.specs.Rows.{values_of, is_row}
use Rattle.sql_mean.specs.Evaluation.{width_of}
use Rattle.sql_mean.proofs.queries.rows_of.Given as goal

abbrev pub invariant-loop-tuple : goal.invariant-loop-tuple
invariant-loop-tuple l = record {
  values : values_of l.rows.items ≡ take l.tuple-index l.tuples;
  rows : list_all (is_row (width_of l.tuples)) l.rows.items ≡ true;
}

use Rattle.std.proofs.Common.{◌≡◌, ◌++◌, true, map, take}
use Rattle.std.specs.List.{list_all}
use Rattle.graph_text.specs.Rows.{values_of, is_row}
use Rattle.rpq_meaning.specs.Joins.{head_row}
use Rattle.rpq_meaning.proofs.mappings.push_rows.Given as goal

abbrev pub invariant-loop-m : goal.invariant-loop-m
invariant-loop-m l = record {
  values : values_of l.rows.items ≡ values_of l.initial.rows.items ++ map (head_row l.heads) (take l.m-index l.all);
  rows : list_all (is_row l.heads.count) l.rows.items ≡ true;
}

use Rattle.std.proofs.Common.{◌≡◌, true, take}
use Rattle.std.specs.List.{list_all}
use Rattle.graph_text.specs.Rows.{values_of, is_row}
use Rattle.rpq_meaning.specs.Joins.{rows_of}
use Rattle.rpq_meaning.proofs.queries.rows_of.Given as goal

abbrev pub invariant-loop-rule : goal.invariant-loop-rule
invariant-loop-rule l = record {
  values : values_of l.rows.items ≡ rows_of l.tables l.conjuncts (take l.rule-index l.rules);
  rows : list_all (is_row l.count) l.rows.items ≡ true;
}

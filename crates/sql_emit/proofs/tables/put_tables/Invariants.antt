use Rattle.std.proofs.Common.{◌≡◌, ◌++◌, true, take, drop}
use Rattle.std.specs.List.{list_all}
use Rattle.sql_emit.specs.Text.{tables_text}
use Rattle.sql_emit.specs.Laws.{label_fits}
use Rattle.sql_emit.specs.Writing.{lines_left}
use Rattle.sql_emit.proofs.tables.put_tables.Given as goal

abbrev pub invariant-loop-n : goal.invariant-loop-n
invariant-loop-n l = record {
  text : l.out.items ++ lines_left l.n (drop l.n l.terms) ≡ l.fn.out.items ++ tables_text l.terms;
  labels : list_all label_fits (take l.n l.terms) ≡ true;
}

use Rattle.std.proofs.Common.{◌≡◌, ◌++◌, true, take, codes}
use Rattle.std.specs.List.{join_by, list_all}
use Rattle.sql_emit.specs.Text.{rule_text}
use Rattle.sql_emit.specs.Laws.{has_few_links}
use Rattle.sql_emit.proofs.rules.put_rules.Given as goal

abbrev pub invariant-loop-i : goal.invariant-loop-i
invariant-loop-i l = record {
  text : l.out.items ≡ l.fn.out.items ++ join_by rule_text (codes "\nUNION\n") (take l.i l.rules);
  few : list_all has_few_links (take l.i l.rules) ≡ true;
}

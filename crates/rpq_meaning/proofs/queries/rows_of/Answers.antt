use Rattle.std.proofs.Common.{◌≡◌, true, sym, subst}
use Rattle.std.specs.List.{list_all}
use Rattle.graph_text.specs.Rows.{is_row}
use Rattle.rpq_meaning.proofs.queries.rows_of.Goals as goal

pub push_rows-requires-clause-rows : goal.push_rows-requires-clause-rows
push_rows-requires-clause-rows c =
    subst (λ n. list_all (is_row n) c.loop-rule.rows.items ≡ true) (sym (c.requires.rules _ _ c.loop-rule-test.true).count_is) c.loop-rule.invariant.rows

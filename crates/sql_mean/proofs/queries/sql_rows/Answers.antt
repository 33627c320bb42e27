use Rattle.std.proofs.Common.{map, sym, ap, subst, ◌∙◌}
use Rattle.sql_read.specs.Kept.{cut, query_in}
use Rattle.sql_read.specs.Whole.{reading_of}
use Rattle.sql_mean.specs.Evaluation.{AreLevel, union_list}
use Rattle.sql_mean.proofs.LastLemmas.{level, rows_are}
use Rattle.sql_mean.proofs.queries.sql_rows.Goals as goal

pub rows_of-requires : goal.rows_of-requires
rows_of-requires c =
    let kept = c.args.query.now.kept in
    let selects = c.cut.ensures ∙ ap (λ ss. cut ss c.last-last.result) c.selects.ensures ∙ ap (cut kept.selects) c.last-last.ensures.span in
    let tuples = c.deref-2.ensures.value ∙ c.in_ok-tuples.ensures ∙ ap (λ ss. union_list c.deref.result.now (map (λ s. query_in s kept) ss)) selects in
    subst AreLevel (sym tuples) (level c.deref.result.now (reading_of c.args.query.now) c.last-last.ensures.whole.conditions)

pub returns-clause-rows : goal.returns-clause-rows
returns-clause-rows c = λ row.
    let kept = c.args.query.now.kept in
    let reading = reading_of c.args.query.now in
    let selects = c.cut.ensures ∙ ap (λ ss. cut ss c.last-last.result) c.selects.ensures ∙ ap (cut kept.selects) c.last-last.ensures.span in
    let tuples = c.deref-2.ensures.value ∙ c.in_ok-tuples.ensures ∙ ap (λ ss. union_list c.deref.result.now (map (λ s. query_in s kept) ss)) selects in
    rows_are c.deref.result.now reading c.args.graph.now (rw c.deref.ensures.value c.in_ok-known.ensures) _ c.sorted.result (c.in_ok-rows.ensures.values ∙ tuples) row (c.sorted.ensures.rows row)

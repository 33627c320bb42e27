use Rattle.std.proofs.Common.{◌∙◌, List, ℕ, [], ◌∷◌, ◌++◌, ap}
use Rattle.query_terms.specs.Values.{QueryValue}
use Rattle.query_terms.specs.View.{query_value}
use Rattle.workload_text.specs.Lines.{lines_text, query_lines}
use Rattle.gm_top.proofs.workload_file.draw_lines.Goals as goal

pub returns-clause-text : goal.returns-clause-text
returns-clause-text c =
    let q = query_value c.in_ok-query.query in
    c.in_ok-write_query.ensures.ok
    ∙ ap (λ (bytes : List ℕ). bytes ++ lines_text (query_lines c.args.number q)) c.clear.ensures.items
    ∙ ap (λ query. lines_text (query_lines c.args.number query)) c.in_ok-query.ensures.query

pub returns-clause-kept : goal.returns-clause-kept
returns-clause-kept c = c.in_ok-keep.ensures ∙ ap (λ (q : QueryValue). c.args.outlines.now ++ q ∷ []) c.in_ok-query.ensures.query

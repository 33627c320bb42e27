use Rattle.std.proofs.Common.{[], ◌∷◌, ◌++◌, ◌∙◌, sym, decimal}
use Rattle.std.proofs.lemmas.List.Folds.{list_all-map}
use Rattle.query_terms.specs.Spans.{lies}
use Rattle.std.proofs.lemmas.Result.{on_err_weaker}
use Rattle.graph_text.proofs.PartLemmas.{OnErr-from, AppendsPart-more, AppendsPart-after}
use Rattle.query_terms.specs.View.{query_value}
use Rattle.workload_text.specs.Lines.{lines_text, line_bytes, asked_of}
use Rattle.workload_text.specs.Lines.WorkLine.{QueryLine}
use Rattle.workload_text.specs.Writing.{rules_lines}
use Rattle.workload_text.proofs.writing.write_query.Goals as goal

pub returns-in_err-write_line-clause-err : goal.returns-in_err-write_line-clause-err
returns-in_err-write_line-clause-err c =
    OnErr-from c.from_residual.result
    (AppendsPart-more _ _ (line_bytes (QueryLine (decimal c.args.number) (asked_of (query_value c.args.query.now))) ++ 10 ∷ [])
    (lines_text (rules_lines c.args.query.now c.args.query.now.rules.now))
    (rw (c.shape_word.ensures, c.class_or_none.ensures, c.class_or_none-2.ensures) at c.in_err-write_line.ensures.err))

pub returns-clause-err : goal.returns-clause-err
returns-clause-err c =
    on_err_weaker c.write_rules.result
    (λ part. AppendsPart-after _ _ _ (line_bytes (QueryLine (decimal c.args.number) (asked_of (query_value c.args.query.now))) ++ 10 ∷ [])
    (lines_text (rules_lines c.args.query.now c.args.query.now.rules.now))
    (rw (c.shape_word.ensures, c.class_or_none.ensures, c.class_or_none-2.ensures) at c.in_ok-write_line.ensures.ok) part)
    c.write_rules.ensures.err

pub write_rules-requires-clause-lies : goal.write_rules-requires-clause-lies
write_rules-requires-clause-lies c = sym (list_all-map (lies _) (λ r. r.conjuncts) c.args.query.now.rules.now) ∙ c.args.query.now.rules_lie

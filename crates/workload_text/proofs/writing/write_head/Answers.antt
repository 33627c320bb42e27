use Rattle.std.proofs.Common.{[], ◌∷◌, ◌++◌, refl, subst, map}
use Rattle.std.proofs.lemmas.Result.{on_err_weaker, on_ok_weaker}
use Rattle.graph_text.specs.EdgesText.{AppendsPart}
use Rattle.graph_text.proofs.PartLemmas.{OnErr-from, AppendsPart-more, AppendsPart-after}
use Rattle.workload_text.specs.Lines.{lines_text, line_bytes, label_lines, type_lines, edge_line}
use Rattle.workload_text.specs.Lines.WorkLine.{FirstLine}
use Rattle.workload_text.proofs.WritingLemmas.{head-text, appended-two}
use Rattle.workload_text.proofs.writing.write_head.Goals as goal

pub returns-in_err-write_line-clause-err : goal.returns-in_err-write_line-clause-err
returns-in_err-write_line-clause-err c =
    OnErr-from c.from_residual.result
    (subst (AppendsPart c.args.out.now.items c.write_line.new.out.items) (head-text c.args.head.now)
    (AppendsPart-more _ _ (line_bytes (FirstLine c.args.head.now.format) ++ 10 ∷ []) ((lines_text (label_lines c.args.head.now.labels)) ++ ((lines_text (type_lines c.args.head.now.types c.args.head.now.schema.kinds)) ++ (lines_text (map edge_line c.args.head.now.schema.edges))))
    (rw (c.format_word-format.ensures, c.format.ensures.format) at c.in_err-write_line.ensures.err)))

pub returns-in_err-write_labels-clause-err : goal.returns-in_err-write_labels-clause-err
returns-in_err-write_labels-clause-err c =
    OnErr-from c.from_residual-in_err-write_labels.result
    (subst (AppendsPart c.args.out.now.items c.write_labels.new.out.items) (head-text c.args.head.now)
    (AppendsPart-after _ _ _ (line_bytes (FirstLine c.args.head.now.format) ++ 10 ∷ []) _ (rw (c.format_word-format.ensures, c.format.ensures.format) at c.in_ok-write_line.ensures.ok)
    (AppendsPart-more _ _ (lines_text (label_lines c.args.head.now.labels)) ((lines_text (type_lines c.args.head.now.types c.args.head.now.schema.kinds)) ++ (lines_text (map edge_line c.args.head.now.schema.edges)))
    (rw (c.as_slice.ensures, c.labels.ensures.labels) at c.in_err-write_labels.ensures.err))))

pub returns-in_err-write_types-clause-err : goal.returns-in_err-write_types-clause-err
returns-in_err-write_types-clause-err c =
    OnErr-from c.from_residual-in_err-write_types.result
    (subst (AppendsPart c.args.out.now.items c.write_types.new.out.items) (head-text c.args.head.now)
    (AppendsPart-after _ _ _ (line_bytes (FirstLine c.args.head.now.format) ++ 10 ∷ []) _ (rw (c.format_word-format.ensures, c.format.ensures.format) at c.in_ok-write_line.ensures.ok)
    (AppendsPart-after _ _ _ (lines_text (label_lines c.args.head.now.labels)) _ (rw (c.as_slice.ensures, c.labels.ensures.labels) at c.in_ok-write_labels.ensures.ok)
    (AppendsPart-more _ _ (lines_text (type_lines c.args.head.now.types c.args.head.now.schema.kinds)) (lines_text (map edge_line c.args.head.now.schema.edges))
    (rw (c.as_slice-2.ensures, c.types.ensures.types, c.kinds.ensures.kinds, c.schema.ensures.schema) at c.in_err-write_types.ensures.err)))))

pub returns-clause-ok : goal.returns-clause-ok
returns-clause-ok c =
    on_ok_weaker c.write_edges.result
    (λ put. appended-two _ _ _ (line_bytes (FirstLine c.args.head.now.format) ++ 10 ∷ []) _ _ (rw (c.format_word-format.ensures, c.format.ensures.format) at c.in_ok-write_line.ensures.ok)
    (appended-two _ _ _ (lines_text (label_lines c.args.head.now.labels)) _ _ (rw (c.as_slice.ensures, c.labels.ensures.labels) at c.in_ok-write_labels.ensures.ok)
    (appended-two _ _ _ (lines_text (type_lines c.args.head.now.types c.args.head.now.schema.kinds)) (lines_text (map edge_line c.args.head.now.schema.edges)) _ (rw (c.as_slice-2.ensures, c.types.ensures.types, c.kinds.ensures.kinds, c.schema.ensures.schema) at c.in_ok-write_types.ensures.ok) put refl) refl) (head-text c.args.head.now))
    (rw c.schema-2.ensures.schema at c.write_edges.ensures.ok)

pub returns-clause-err : goal.returns-clause-err
returns-clause-err c =
    on_err_weaker c.write_edges.result
    (λ part. subst (AppendsPart c.args.out.now.items c.write_edges.new.out.items) (head-text c.args.head.now)
    (AppendsPart-after _ _ _ (line_bytes (FirstLine c.args.head.now.format) ++ 10 ∷ []) _ (rw (c.format_word-format.ensures, c.format.ensures.format) at c.in_ok-write_line.ensures.ok)
    (AppendsPart-after _ _ _ (lines_text (label_lines c.args.head.now.labels)) _ (rw (c.as_slice.ensures, c.labels.ensures.labels) at c.in_ok-write_labels.ensures.ok)
    (AppendsPart-after _ _ _ (lines_text (type_lines c.args.head.now.types c.args.head.now.schema.kinds)) (lines_text (map edge_line c.args.head.now.schema.edges)) (rw (c.as_slice-2.ensures, c.types.ensures.types, c.kinds.ensures.kinds, c.schema.ensures.schema) at c.in_ok-write_types.ensures.ok) part))))
    (rw c.schema-2.ensures.schema at c.write_edges.ensures.err)

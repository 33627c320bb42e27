use Rattle.std.proofs.Common.{subst, ap, ◌∙◌, ◌++◌}
use Rattle.std.proofs.lemmas.Result.{on_err_weaker, on_ok_weaker}
use Rattle.graph_text.specs.EdgesText.{AppendsPart}
use Rattle.query_terms.proofs.SpanLemmas.{passes_cut}
use Rattle.workload_text.proofs.WritingLemmas.{conjunct-text, and-true}
use Rattle.query_terms.specs.Spans.{lies}
use Rattle.workload_text.proofs.writing.write_conjunct.Goals as goal

pub write_line-requires : goal.write_line-requires
write_line-requires c =
    and-true _ (rw c.part_of.ensures (passes_cut (lies _) c.args.query.now.words.now c.args.conjunct.now.words c.args.query.now.words_lie))

pub returns-clause-ok : goal.returns-clause-ok
returns-clause-ok c =
    on_ok_weaker c.write_line.result (λ put. put ∙ ap (λ bs. c.args.out.now.items ++ bs) (conjunct-text c.args.query.now c.args.conjunct.now))
    (rw c.part_of.ensures at c.write_line.ensures.ok)

pub returns-clause-err : goal.returns-clause-err
returns-clause-err c =
    on_err_weaker c.write_line.result
    (λ part. subst (AppendsPart c.args.out.now.items c.write_line.new.out.items) (conjunct-text c.args.query.now c.args.conjunct.now) part)
    (rw c.part_of.ensures at c.write_line.ensures.err)

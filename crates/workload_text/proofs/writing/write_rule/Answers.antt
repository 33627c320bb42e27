use Rattle.std.proofs.Common.{refl, sym, subst, ◌∙◌}
use Rattle.std.proofs.lemmas.List.Folds.{list_all-map}
use Rattle.std.proofs.lemmas.Result.{on_err_weaker, on_ok_weaker}
use Rattle.graph_text.specs.EdgesText.{AppendsPart}
use Rattle.graph_text.proofs.PartLemmas.{OnErr-from, AppendsPart-more, AppendsPart-after}
use Rattle.query_terms.specs.Spans.{lies, cut}
use Rattle.workload_text.specs.Lines.{lines_text}
use Rattle.workload_text.specs.Writing.{conjuncts_lines}
use Rattle.query_terms.proofs.SpanLemmas.{passes_cut}
use Rattle.workload_text.proofs.WritingLemmas.{rule-text, appended-two}
use Rattle.workload_text.proofs.writing.write_rule.Goals as goal

pub returns-in_err-write_line-clause-err : goal.returns-in_err-write_line-clause-err
returns-in_err-write_line-clause-err c =
    OnErr-from c.from_residual.result
    (subst (AppendsPart c.args.out.now.items c.write_line.new.out.items) (rule-text c.args.query.now c.args.rule.now _ c.requires.heads refl)
    (AppendsPart-more _ _ _ (lines_text (conjuncts_lines c.args.query.now (cut c.args.query.now.conjuncts.now c.args.rule.now.conjuncts))) c.in_err-write_line.ensures.err))

pub write_conjuncts-requires : goal.write_conjuncts-requires
write_conjuncts-requires c =
    rw c.part_of.ensures (passes_cut _ c.args.query.now.conjuncts.now c.args.rule.now.conjuncts
    (sym (list_all-map (lies _) (λ k. k.words) c.args.query.now.conjuncts.now) ∙ c.args.query.now.conjuncts_lie))

pub returns-clause-ok : goal.returns-clause-ok
returns-clause-ok c =
    on_ok_weaker c.write_conjuncts.result
    (λ put. appended-two _ _ _ _ _ _ c.in_ok-write_line.ensures.ok put (rule-text c.args.query.now c.args.rule.now _ c.requires.heads refl))
    (rw c.part_of.ensures at c.write_conjuncts.ensures.ok)

pub returns-clause-err : goal.returns-clause-err
returns-clause-err c =
    on_err_weaker c.write_conjuncts.result
    (λ part. subst (AppendsPart c.args.out.now.items c.write_conjuncts.new.out.items) (rule-text c.args.query.now c.args.rule.now _ c.requires.heads refl)
    (AppendsPart-after _ _ _ _ _ c.in_ok-write_line.ensures.ok part))
    (rw c.part_of.ensures at c.write_conjuncts.ensures.err)

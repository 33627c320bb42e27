use Rattle.std.proofs.Common.{refl, sym}
use Rattle.graph_text.proofs.PartLemmas.{OnErr-from}
use Rattle.workload_text.specs.Lines.{lines_text}
use Rattle.workload_text.specs.Writing.{conjuncts_lines}
use Rattle.workload_text.proofs.WritingLemmas.{split-conjuncts, text-step, text-stopped}
use Rattle.workload_text.proofs.writing.write_conjuncts.Goals as goal

pub loop-conjunct-preserved : goal.loop-conjunct-preserved
loop-conjunct-preserved c =
    text-step (λ cs. lines_text (conjuncts_lines c.args.query.now cs)) (split-conjuncts c.args.query.now) c.args.conjuncts.now c.loop-conjunct.conjunct-index _ c.conjunct-item.result (sym c.conjunct-item.is)
    c.loop-conjunct-test.true _ _ _ c.loop-conjunct.invariant refl _ c.in_ok-write_conjunct.ensures.ok

pub returns-in_err-write_conjunct-clause-err : goal.returns-in_err-write_conjunct-clause-err
returns-in_err-write_conjunct-clause-err c =
    OnErr-from c.from_residual.result
    (text-stopped (λ cs. lines_text (conjuncts_lines c.args.query.now cs)) (split-conjuncts c.args.query.now) c.args.conjuncts.now c.loop-conjunct.conjunct-index _ c.conjunct-item.result (sym c.conjunct-item.is)
    c.loop-conjunct-test.true _ _ _ c.loop-conjunct.invariant refl _ c.in_err-write_conjunct.ensures.err)

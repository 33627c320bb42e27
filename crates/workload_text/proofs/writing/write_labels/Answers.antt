use Rattle.std.proofs.Common.{sym}
use Rattle.graph_text.proofs.PartLemmas.{OnErr-from}
use Rattle.workload_text.specs.Lines.{lines_text, label_lines}
use Rattle.workload_text.specs.Lines.WorkLine.{LabelLine}
use Rattle.workload_text.proofs.WritingLemmas.{split-labels, line-text, text-step, text-stopped}
use Rattle.workload_text.proofs.writing.write_labels.Goals as goal

pub loop-name-preserved : goal.loop-name-preserved
loop-name-preserved c =
    text-step (λ names. lines_text (label_lines names)) split-labels c.args.names.now c.loop-name.name-index _ c.name-item.result (sym c.name-item.is) c.loop-name-test.true
    _ _ _ c.loop-name.invariant (line-text (LabelLine c.name-item.result)) _ (rw c.as_slice.ensures.bytes at c.in_ok-write_line.ensures.ok)

pub returns-in_err-write_line-clause-err : goal.returns-in_err-write_line-clause-err
returns-in_err-write_line-clause-err c =
    OnErr-from c.from_residual.result
    (text-stopped (λ names. lines_text (label_lines names)) split-labels c.args.names.now c.loop-name.name-index _ c.name-item.result (sym c.name-item.is) c.loop-name-test.true
    _ _ _ c.loop-name.invariant (line-text (LabelLine c.name-item.result)) _ (rw c.as_slice.ensures.bytes at c.in_err-write_line.ensures.err))

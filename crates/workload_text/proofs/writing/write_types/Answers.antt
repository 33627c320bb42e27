use Rattle.std.proofs.Common.{sym}
use Rattle.graph_text.proofs.PartLemmas.{OnErr-from}
use Rattle.sel_algebra.specs.declared.vocabulary.Kind.TheVariants.{Fixed}
use Rattle.workload_text.specs.Lines.WorkLine.{TypeLine}
use Rattle.workload_text.proofs.WritingLemmas.{line-text, types-step, types-stopped}
use Rattle.workload_text.proofs.writing.write_types.Goals as goal

pub loop-t-preserved : goal.loop-t-preserved
loop-t-preserved c =
    types-step c.args.names.now c.args.kinds.now c.requires c.loop-t.t c.index-names-t.result Fixed c.index-names-t.result (sym c.index-names-t.is) c.loop-t-test.true
    _ _ _ c.loop-t.invariant (line-text (TypeLine c.index-names-t.result _)) _
    (rw (c.kind_word-kind.ensures, c.as_slice.ensures.bytes) at c.in_ok-write_line.ensures.ok)

pub returns-in_err-write_line-clause-err : goal.returns-in_err-write_line-clause-err
returns-in_err-write_line-clause-err c =
    OnErr-from c.from_residual.result
    (types-stopped c.args.names.now c.args.kinds.now c.requires c.loop-t.t c.index-names-t.result Fixed c.index-names-t.result (sym c.index-names-t.is) c.loop-t-test.true
    _ _ _ c.loop-t.invariant (line-text (TypeLine c.index-names-t.result _)) _
    (rw (c.kind_word-kind.ensures, c.as_slice.ensures.bytes) at c.in_err-write_line.ensures.err))

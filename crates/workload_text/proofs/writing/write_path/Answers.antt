use Rattle.std.proofs.Common.{refl, false}
use Rattle.graph_text.proofs.PartLemmas.{OnErr-from}
use Rattle.workload_text.proofs.WritingLemmas.{Parts-symbols, joined-step, joined-gap, joined-item}
use Rattle.workload_text.proofs.writing.write_path.Goals as goal

pub returns-in_err-write_gap-clause-err : goal.returns-in_err-write_gap-clause-err
returns-in_err-write_gap-clause-err c =
    OnErr-from c.from_residual.result
    (joined-gap _ Parts-symbols 46 c.args.symbols.now c.loop-i.i (record { edge = 0; back = false }) c.loop-i-test.true _ refl _ _ c.loop-i.invariant _
    c.in_err-write_gap.ensures.err)

pub returns-in_err-write_symbol-clause-err : goal.returns-in_err-write_symbol-clause-err
returns-in_err-write_symbol-clause-err c =
    OnErr-from c.from_residual-in_err-write_symbol.result
    (joined-item _ Parts-symbols 46 c.args.symbols.now c.loop-i.i _ c.loop-i-test.true _ refl _ _ c.loop-i.invariant _ _
    c.in_ok-write_gap.ensures.ok c.in_err-write_symbol.ensures.err)

pub loop-i-preserved : goal.loop-i-preserved
loop-i-preserved c =
    joined-step _ Parts-symbols 46 c.args.symbols.now c.loop-i.i _ c.loop-i-test.true _ refl _ _ c.loop-i.invariant _ _
    c.in_ok-write_gap.ensures.ok c.in_ok-write_symbol.ensures.ok

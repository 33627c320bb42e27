use Rattle.std.proofs.Common.{refl}
use Rattle.graph_text.proofs.PartLemmas.{OnErr-from}
use Rattle.workload_text.proofs.WritingLemmas.{Parts-words, joined-step, joined-gap, joined-item}
use Rattle.workload_text.proofs.writing.write_union.Goals as goal

pub returns-in_err-write_gap-clause-err : goal.returns-in_err-write_gap-clause-err
returns-in_err-write_gap-clause-err c =
    OnErr-from c.from_residual.result
    (joined-gap _ (Parts-words c.args.symbols.now) 43 c.args.words.now c.loop-i.i (record { first = 0; count = 0 }) c.loop-i-test.true _ refl
    _ _ c.loop-i.invariant _ c.in_err-write_gap.ensures.err)

pub returns-in_err-write_path-clause-err : goal.returns-in_err-write_path-clause-err
returns-in_err-write_path-clause-err c =
    OnErr-from c.from_residual-in_err-write_path.result
    (joined-item _ (Parts-words c.args.symbols.now) 43 c.args.words.now c.loop-i.i _ c.loop-i-test.true _ refl _ _ c.loop-i.invariant _ _
    c.in_ok-write_gap.ensures.ok (rw c.part_of.ensures at c.in_err-write_path.ensures.err))

pub loop-i-preserved : goal.loop-i-preserved
loop-i-preserved c =
    joined-step _ (Parts-words c.args.symbols.now) 43 c.args.words.now c.loop-i.i _ c.loop-i-test.true _ refl _ _ c.loop-i.invariant _ _
    c.in_ok-write_gap.ensures.ok (rw c.part_of.ensures at c.in_ok-write_path.ensures.ok)

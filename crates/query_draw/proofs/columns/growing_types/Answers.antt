use Rattle.std.proofs.Common.{◌≡◌, ◌<◌, ◌+◌, length, subst, sym, arith}
use Rattle.query_draw.proofs.ColumnLemmas.{GrowingBelow, GrowingBelow-none, GrowingBelow-with, GrowingBelow-without}
use Rattle.query_draw.proofs.columns.growing_types.Goals.{then-is_growing, else-is_growing}
use Rattle.query_draw.proofs.columns.growing_types.Goals as goal

pub loop-t-init : goal.loop-t-init
loop-t-init c = GrowingBelow-none c.args.kinds.now

pub loop-t-preserved : goal.loop-t-preserved
loop-t-preserved c =
    let kinds = c.args.kinds.now in
    let t = c.loop-t.t in
    let lt : t < 64 = omega (arith, c.loop-t-test.true, c.requires) in
    elim c.if-is_growing.branch [
      | then-is_growing w ↦ subst (λ set. GrowingBelow kinds set (t + 1)) (sym w.growing-is) (GrowingBelow-with kinds c.loop-t.growing t lt (sym w.if-is_growing.ensures) c.loop-t.invariant)
      | else-is_growing w ↦ subst (λ set. GrowingBelow kinds set (t + 1)) (sym w.growing-is) (GrowingBelow-without kinds c.loop-t.growing t (sym w.if-is_growing.ensures) c.loop-t.invariant)
    ]

pub returns : goal.returns
returns c =
    let all : c.loop-t.t ≡ length c.args.kinds.now = omega (arith, c.loop-t-test.false, c.loop-t.auto.t-end) in
    (subst (GrowingBelow c.args.kinds.now c.loop-t.growing) all c.loop-t.invariant).below

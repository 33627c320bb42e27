use Rattle.std.proofs.Common.{◌≡◌, ◌*◌, ◌∙◌, length, slice_index_or, ap, subst, arith, None}
use Rattle.std.proofs.lemmas.List.{length-replicate}
use Rattle.sel_algebra.proofs.UnitLemmas.{equal_start, equal_step, equal_end, equal_below}
use Rattle.sel_algebra.proofs.matrix.enter_equal.Goals as goal

pub loop-t-init : goal.loop-t-init
loop-t-init c p = ap (λ xs. slice_index_or xs p None) c.requires.none ∙ equal_start (length c.args.kinds.now) p

pub loop-t-preserved : goal.loop-t-preserved
loop-t-preserved c p =
    let n = length c.args.kinds.now in
    equal_step n c.loop-t.t p c.loop-t.cells (omega (arith, c.loop-t-test.true)) (c.loop-t.auto.cells ∙ (ap length c.requires.none ∙ length-replicate (n * n) None)) (c.loop-t.invariant p)

pub returns : goal.returns
returns c =
    let n = length c.args.kinds.now in
    let all : c.loop-t.t ≡ n = omega (arith, c.loop-t-test.false, c.loop-t.auto.t-end) in
    equal_end c.args.kinds.now c.loop-t.cells (c.loop-t.auto.cells ∙ (ap length c.requires.none ∙ length-replicate (n * n) None))
    (λ p. subst (λ t. slice_index_or c.loop-t.cells p None ≡ equal_below n t p) all (c.loop-t.invariant p))

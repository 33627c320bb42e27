use Rattle.std.proofs.Common.{◌≢◌, ◌∙◌, ap, sym, refl}
use Rattle.sel_algebra.specs.Table.{one_of}
use Rattle.sel_algebra.specs.Closure.{round_of}
use Rattle.sel_algebra.proofs.ClosureLemmas.{round_of-parts, IsRound-one_of, IsRound-round_of, closure-still, room-round_of}
use Rattle.sel_algebra.proofs.matrix.Matrix.closure.Goals as goal

pub loop-closure-init : goal.loop-closure-init
loop-closure-init c = rw (c.in_ok-closure.ensures.value, c.kinds-2.ensures.value) (IsRound-one_of c.args.self.now)

pub loop-closure-preserved : goal.loop-closure-preserved
loop-closure-preserved c =
    let next_is = round_of-parts c.args.self.now c.loop-closure.closure _ _ _ c.in_ok-next.ensures.value (c.in_ok-one.ensures.value ∙ ap one_of c.kinds.ensures.value) c.in_ok-times.ensures.value in
    rw next_is (IsRound-round_of _ _ c.loop-closure.invariant)

pub loop-closure-smaller : goal.loop-closure-smaller
loop-closure-smaller c =
    let next_is = round_of-parts c.args.self.now c.loop-closure.closure _ _ _ c.in_ok-next.ensures.value (c.in_ok-one.ensures.value ∙ ap one_of c.kinds.ensures.value) c.in_ok-times.ensures.value in
    let differ : (round_of c.args.self.now c.loop-closure.closure).cells ≢ c.loop-closure.closure.cells = λ same. let clash = c.if-has_cells_of.ensures.1 (ap (λ t. t.cells) next_is ∙ same) in cc in
    rw next_is (room-round_of _ _ c.loop-closure.invariant differ)

pub returns-then-has_cells_of-clause-value : goal.returns-then-has_cells_of-clause-value
returns-then-has_cells_of-clause-value c =
    let next_is = round_of-parts c.args.self.now c.loop-closure.closure _ _ _ c.in_ok-next.ensures.value (c.in_ok-one.ensures.value ∙ ap one_of c.kinds.ensures.value) c.in_ok-times.ensures.value in
    (closure-still _ _ c.loop-closure.invariant (ap (λ t. t.cells) (sym next_is) ∙ c.if-has_cells_of.ensures.0 refl)).1

pub returns-then-has_cells_of-clause-least : goal.returns-then-has_cells_of-clause-least
returns-then-has_cells_of-clause-least c =
    let next_is = round_of-parts c.args.self.now c.loop-closure.closure _ _ _ c.in_ok-next.ensures.value (c.in_ok-one.ensures.value ∙ ap one_of c.kinds.ensures.value) c.in_ok-times.ensures.value in
    (closure-still _ _ c.loop-closure.invariant (ap (λ t. t.cells) (sym next_is) ∙ c.if-has_cells_of.ensures.0 refl)).0

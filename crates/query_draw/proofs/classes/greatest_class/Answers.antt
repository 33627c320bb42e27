use Rattle.std.proofs.Common.{◌≡◌, ◌+◌, length, sym, subst, arith}
use Rattle.sel_algebra.specs.Table.{kind_at}
use Rattle.query_draw.specs.Classes.{IsGreatestIn}
use Rattle.query_draw.proofs.ClassLemmas.{AreGreatestTo, AreGreatestTo-none, AreGreatestTo-more, AreGreatestTo-all}
use Rattle.query_draw.proofs.classes.greatest_class.Goals as goal

pub loop-to-init : goal.loop-to-init
loop-to-init c = AreGreatestTo-none c.args.kinds.now c.args.columns.now

pub loop-to-preserved : goal.loop-to-preserved
loop-to-preserved c =
    let kinds = c.args.kinds.now in
    let to = c.loop-to.to in
    let class = c.greatest_to-class.result in
    subst (λ x. AreGreatestTo kinds c.args.columns.now x (to + 1)) (sym c.greater_class-greatest.ensures)
    (AreGreatestTo-more kinds c.args.columns.now c.loop-to.greatest class to c.loop-to-test.true
    (subst (λ column. IsGreatestIn kinds column (kind_at kinds to) class) c.at.ensures c.greatest_to-class.ensures) c.loop-to.invariant)

pub returns : goal.returns
returns c =
    let kinds = c.args.kinds.now in
    let all : c.loop-to.to ≡ length kinds = omega (arith, c.loop-to-test.false, c.loop-to.auto.to-end) in
    AreGreatestTo-all kinds c.args.columns.now c.loop-to.greatest (subst (AreGreatestTo kinds c.args.columns.now c.loop-to.greatest) all c.loop-to.invariant)

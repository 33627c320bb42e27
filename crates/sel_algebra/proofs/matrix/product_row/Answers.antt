use Rattle.std.proofs.Common.{◌≡◌, length, arith}
use Rattle.sel_algebra.proofs.RowLemmas.{JoinsFirst-none, JoinsFirst-more, JoinsFirst-all}
use Rattle.sel_algebra.proofs.matrix.product_row.Goals as goal

pub loop-middle-init : goal.loop-middle-init
loop-middle-init c = JoinsFirst-none _ _ _ c.requires.row

pub loop-middle-preserved : goal.loop-middle-preserved
loop-middle-preserved c = JoinsFirst-more _ _ _ _ _ (omega arith) c.loop-middle.invariant c.join_paths.ensures

pub returns : goal.returns
returns c =
    let at_end : c.loop-middle.middle ≡ length c.args.kinds.now = omega arith in
    JoinsFirst-all _ _ _ (rw at_end at c.loop-middle.invariant)

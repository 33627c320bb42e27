use Rattle.std.proofs.Common.{arith}
use Rattle.sel_algebra.specs.Table.{laid_out, product_at}
use Rattle.sel_algebra.proofs.TableLemmas.{first_cells-append}
use Rattle.sel_algebra.proofs.matrix.cells_of_product.Goals as goal

pub loop-from-preserved : goal.loop-from-preserved
loop-from-preserved c =
    let kinds = c.args.kinds.now in
    let product = product_at (laid_out kinds c.args.first.now) (laid_out kinds c.args.second.now) in
    rw c.in_ok-append.ensures.items (first_cells-append kinds product _ _ _ _ _ c.loop-from.invariant c.product_row.ensures (omega arith))

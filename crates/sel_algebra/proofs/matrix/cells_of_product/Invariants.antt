use Rattle.std.proofs.Common.{◌≡◌, ◌*◌, length}
use Rattle.sel_algebra.specs.Table.{laid_out, first_cells, product_at}
use Rattle.sel_algebra.proofs.matrix.cells_of_product.Given as goal

-- The entries so far are the first rows of the product.
abbrev pub invariant-loop-from : goal.invariant-loop-from
invariant-loop-from l = l.cells.items ≡ first_cells l.kinds (product_at (laid_out l.kinds l.first) (laid_out l.kinds l.second)) (l.from * length l.kinds)

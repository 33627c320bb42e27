use Rattle.std.proofs.Common.{◌≡◌}
use Rattle.sel_algebra.specs.Table.{laid_out, first_cells, sum_at}
use Rattle.sel_algebra.proofs.matrix.cells_of_sum.Given as goal

-- The entries so far are the first ones of the sum.
abbrev pub invariant-loop-place : goal.invariant-loop-place
invariant-loop-place l = l.cells.items ≡ first_cells l.kinds (sum_at (laid_out l.kinds l.first) (laid_out l.kinds l.second)) l.place

use Rattle.sel_algebra.specs.Table.{laid_out}
use Rattle.sel_algebra.proofs.TableLemmas.{IsMatrix-times_of}
use Rattle.sel_algebra.proofs.matrix.Matrix.times.Goals as goal

pub with_cells-requires : goal.with_cells-requires
with_cells-requires c =
    rw c.in_ok-cells.ensures (IsMatrix-times_of (laid_out _ c.as_slice.result.now) (laid_out _ c.as_slice-2.result.now)
    (rw (c.as_slice-kinds.ensures.value, c.as_slice.ensures.value) c.self.invariant))

use Rattle.sel_algebra.proofs.TableLemmas.{IsMatrix-zero_of}
use Rattle.sel_algebra.proofs.matrix.Matrix.zero.Goals as goal

pub with_cells-requires : goal.with_cells-requires
with_cells-requires c = rw c.in_ok-cells.ensures (IsMatrix-zero_of _ c.requires)

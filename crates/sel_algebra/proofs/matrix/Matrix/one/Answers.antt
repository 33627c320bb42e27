use Rattle.sel_algebra.proofs.TableLemmas.{IsMatrix-one_of}
use Rattle.sel_algebra.proofs.matrix.Matrix.one.Goals as goal

pub with_cells-requires : goal.with_cells-requires
with_cells-requires c = rw c.in_ok-cells.ensures (IsMatrix-one_of _ c.requires)

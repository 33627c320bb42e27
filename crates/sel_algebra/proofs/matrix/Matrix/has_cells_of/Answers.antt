use Rattle.std.proofs.Common.{arith}
use Rattle.std.proofs.lemmas.Slice.Eq.{slice_eq-Decides}
use Rattle.sel_algebra.proofs.matrix.Matrix.has_cells_of.Goals as goal

pub returns : goal.returns
returns c = rw (← c.self.view_is, ← c.other.view_is, ← c.as_slice.ensures.value, ← c.as_slice-2.ensures.value) (slice_eq-Decides (λ a b. grind arith) _ _ _ c.eq.ensures)

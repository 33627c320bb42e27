use Rattle.std.proofs.Common.{◌≡◌, ◌∙◌, ap, sym, refl}
use Rattle.sel_algebra.specs.Table.{laid_out}
use Rattle.sel_algebra.proofs.TableLemmas.{IsMatrix-plus_of}
use Rattle.sel_algebra.proofs.matrix.Matrix.plus.Goals as goal

pub with_cells-requires : goal.with_cells-requires
with_cells-requires c =
    let same : c.other.inside.kinds.items ≡ c.self.inside.kinds.items = ap (λ t. t.kinds) c.other.view_is ∙ (c.requires ∙ sym (ap (λ t. t.kinds) c.self.view_is)) in
    rw c.in_ok-cells.ensures (IsMatrix-plus_of (laid_out _ c.as_slice.result.now) (laid_out _ c.as_slice-2.result.now) refl
    (rw (c.as_slice-kinds.ensures.value, c.as_slice.ensures.value) c.self.invariant)
    (rw (c.as_slice-kinds.ensures.value, c.as_slice-2.ensures.value) (rw same at c.other.invariant)))

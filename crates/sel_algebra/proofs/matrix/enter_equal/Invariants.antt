use Rattle.std.proofs.Common.{◌≡◌, length, slice_index_or, ℕ, None}
use Rattle.sel_algebra.proofs.UnitLemmas.{equal_below}
use Rattle.sel_algebra.proofs.matrix.enter_equal.Given as goal

abbrev pub invariant-loop-t : goal.invariant-loop-t
invariant-loop-t l = (p : ℕ) → slice_index_or l.cells p None ≡ equal_below (length l.kinds) l.t p

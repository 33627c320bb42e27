use Rattle.std.proofs.Common.{◌≡◌}
use Rattle.sel_algebra.specs.Table.{laid_out}
use Rattle.sel_algebra.specs.Greatest.{greatest_below, class_at}
use Rattle.sel_algebra.proofs.matrix.greatest_class_from.Given as goal

-- The greatest class of the entries before this one.
abbrev pub invariant-loop-to : goal.invariant-loop-to
invariant-loop-to l = l.greatest ≡ greatest_below l.to (class_at (laid_out l.kinds l.cells) l.from)

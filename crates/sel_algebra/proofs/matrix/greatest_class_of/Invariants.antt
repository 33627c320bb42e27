use Rattle.std.proofs.Common.{◌≡◌}
use Rattle.sel_algebra.specs.Table.{laid_out}
use Rattle.sel_algebra.specs.Greatest.{greatest_below, greatest_from}
use Rattle.sel_algebra.proofs.matrix.greatest_class_of.Given as goal

-- The greatest class of the rows before this one.
abbrev pub invariant-loop-from : goal.invariant-loop-from
invariant-loop-from l = l.greatest ≡ greatest_below l.from (greatest_from (laid_out l.kinds l.cells))

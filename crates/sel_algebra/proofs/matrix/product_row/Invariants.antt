use Rattle.std.proofs.Common.{length}
use Rattle.sel_algebra.specs.Table.{laid_out, through}
use Rattle.sel_algebra.proofs.RowLemmas.{JoinsFirst}
use Rattle.sel_algebra.proofs.matrix.product_row.Given as goal

-- Each entry joins the paths through the types before this one.
abbrev pub invariant-loop-middle : goal.invariant-loop-middle
invariant-loop-middle l = JoinsFirst l.row (length l.kinds) l.middle (through (laid_out l.kinds l.first) (laid_out l.kinds l.second) l.from)

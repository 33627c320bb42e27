use Rattle.std.proofs.Common.{arith}
use Rattle.sel_algebra.proofs.RowLemmas.{JoinsBelow-none, JoinsBelow-more}
use Rattle.sel_algebra.proofs.matrix.join_paths.Goals as goal

pub loop-to-init : goal.loop-to-init
loop-to-init c = JoinsBelow-none _ _

pub loop-to-preserved : goal.loop-to-preserved
loop-to-preserved c = JoinsBelow-more _ _ _ _ _ (omega arith) c.loop-to.invariant (rw c.composed_entry-path.ensures at c.joined_entry.ensures)

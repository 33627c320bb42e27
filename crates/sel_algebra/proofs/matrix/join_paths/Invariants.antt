use Rattle.sel_algebra.specs.Table.{laid_out, through}
use Rattle.sel_algebra.proofs.RowLemmas.{JoinsBelow}
use Rattle.sel_algebra.proofs.matrix.join_paths.Given as goal

-- The entries before this one are joined with their paths.
abbrev pub invariant-loop-to : goal.invariant-loop-to
invariant-loop-to l = JoinsBelow l.initial.row l.row (λ to. through (laid_out l.kinds l.first) (laid_out l.kinds l.second) l.from to l.middle) l.to

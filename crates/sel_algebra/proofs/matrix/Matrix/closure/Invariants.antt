use Rattle.sel_algebra.proofs.ClosureLemmas.{IsRound}
use Rattle.sel_algebra.proofs.RankLemmas.{room}
use Rattle.sel_algebra.proofs.matrix.Matrix.closure.Given as goal

-- What a round keeps.
abbrev pub invariant-loop-closure : goal.invariant-loop-closure
invariant-loop-closure l = IsRound l.self l.closure

-- How far the entries may still rise.
abbrev pub decreases-loop-closure : goal.decreases-loop-closure
decreases-loop-closure l = room l.closure.cells

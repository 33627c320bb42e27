use Rattle.std.proofs.Common.{◌≡◌, ◌≤◌, max, length}
use Rattle.sql_read.specs.Text.{depth_from, deepest}
use Rattle.sql_read.proofs.depth.is_too_deep.Given as goal

abbrev pub invariant-loop-rest : goal.invariant-loop-rest
invariant-loop-rest l = record {
  low : l.depth ≤ 64;
  same : max 64 (depth_from l.depth l.rest) ≡ max 64 (deepest l.fn.text);
}

abbrev pub decreases-loop-rest : goal.decreases-loop-rest
decreases-loop-rest l = length l.rest

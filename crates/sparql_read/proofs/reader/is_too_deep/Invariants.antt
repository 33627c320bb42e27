use Rattle.std.proofs.Common.{◌≡◌, ◌≤◌, max, length}
use Rattle.sparql_read.specs.Text.{deepest_from, deepest}
use Rattle.sparql_read.proofs.reader.is_too_deep.Given as goal

abbrev pub invariant-loop-rest : goal.invariant-loop-rest
invariant-loop-rest l = record {
  low : l.depth ≤ 64;
  same : max 64 (deepest_from l.depth l.rest) ≡ max 64 (deepest l.text);
}

abbrev pub decreases-loop-rest : goal.decreases-loop-rest
decreases-loop-rest l = length l.rest

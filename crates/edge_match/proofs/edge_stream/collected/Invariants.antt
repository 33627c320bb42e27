use Rattle.std.proofs.Common.{◌≡◌, length, ◌++◌}
use Rattle.edge_match.proofs.edge_stream.collected.Given as goal

-- the edges that were taken, and then those still to come, are all
abbrev pub invariant-loop-edge : goal.invariant-loop-edge
invariant-loop-edge l = record {
  edges : l.edges.items ++ l.stream ≡ l.fn.stream;
}

abbrev pub decreases-loop-edge : goal.decreases-loop-edge
decreases-loop-edge l = length l.stream

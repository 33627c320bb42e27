use Rattle.std.proofs.Common.{◌≡◌, ◌++◌, take}
use Rattle.graph_text.specs.EdgesText.{edges_text}
use Rattle.graph_text.proofs.edge_text.write_edges.Given as goal

-- the lines of the triples so far have been appended
abbrev pub invariant-loop-edge : goal.invariant-loop-edge
invariant-loop-edge l = l.out.items ≡ l.fn.out.items ++ edges_text (take l.edge-index l.edge-items)

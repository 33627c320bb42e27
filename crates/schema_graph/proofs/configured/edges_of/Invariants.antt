use Rattle.std.proofs.Common.{◌≡◌, map, take}
use Rattle.schema_graph.specs.Configured.{edge_of}
use Rattle.schema_graph.proofs.configured.edges_of.Given as goal

abbrev pub invariant-loop-c : goal.invariant-loop-c
invariant-loop-c l = l.edges.items ≡ map (edge_of l.kinds) (take l.c l.config.constraints)

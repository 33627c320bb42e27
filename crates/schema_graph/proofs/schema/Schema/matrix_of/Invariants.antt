use Rattle.std.proofs.Common.{map, take}
use Rattle.schema_graph.specs.Edge.{taken}
use Rattle.schema_graph.proofs.LabelledLemmas.{HasEdges}
use Rattle.schema_graph.proofs.schema.Schema.matrix_of.Given as goal

abbrev pub invariant-loop-edge : goal.invariant-loop-edge
invariant-loop-edge l = HasEdges l.self.kinds (map (taken l.back) (take l.edge-index l.self.edges)) l.label l.matrix

use Rattle.std.proofs.Common.{◌≡◌}
use Rattle.schema_graph.specs.Labelled.{matrix_of}
use Rattle.schema_graph.proofs.LabelledLemmas.{HasEdges-none, HasEdges-more, matrix_of-HasEdges, HasOperators-matrix_of}
use Rattle.schema_graph.proofs.schema.Schema.matrix_of.Goals as goal

pub loop-edge-init : goal.loop-edge-init
loop-edge-init c =
    rw (c.in_ok-matrix.ensures.value, c.kinds.ensures.kinds) (HasEdges-none _ _ c.kinds.ensures.schema.few_types)

pub loop-edge-preserved : goal.loop-edge-preserved
loop-edge-preserved c =
    let edges = c.self.inside.edges.items in
    let enters = rw (c.taken.ensures, c.deref-edge-items.ensures.value) at c.enter_edge.ensures.entries in
    let lt = rw c.deref-edge-items.ensures.value at c.loop-edge-test.true in
    rw (← c.self.view_is) (HasEdges-more _ edges _ _ _ c.loop-edge.matrix _ _ c.self.invariant.schema.edges_differ lt
    (rw (← c.self.view_is) at c.loop-edge.invariant) enters c.enter_edge.ensures.matrix)

value : (c : goal.After-loop-edge) → c.loop-edge.matrix ≡ matrix_of c.args.self.now c.args.label c.args.back
value c =
    let all = rw c.deref-edge-items.ensures.value at c.loop-edge-test.false in
    rw (← c.self.view_is) (matrix_of-HasEdges _ _ _ _ c.loop-edge.edge-index all (rw (← c.self.view_is) at c.loop-edge.invariant))

pub returns-clause-value : goal.returns-clause-value
returns-clause-value c = value c

pub returns-clause-operators : goal.returns-clause-operators
returns-clause-operators c = rw (value c, ← c.self.view_is) (HasOperators-matrix_of _ c.args.label c.args.back c.self.invariant.schema)

use Rattle.std.proofs.Common.{◌≡◌, map, take}
use Rattle.query_draw.proofs.query.edge_labels.Given as goal

abbrev pub invariant-loop-e : goal.invariant-loop-e
invariant-loop-e l = record {
  put : l.labels.items ≡ map (λ e. e.label) (take l.e l.schema.edges);
}

use Rattle.std.proofs.Common.{◌∷◌, [], ◌++◌, List, ap, sym, ◌∙◌, append_assoc}
use Rattle.std.proofs.lemmas.List.{append-nil}
use Rattle.graph_text.specs.declared.graphs.Triple.{Triple}
use Rattle.edge_match.proofs.edge_stream.collected.Goals as goal

pub loop-edge-preserved : goal.loop-edge-preserved
loop-edge-preserved c = record {
  edges =
      ap (λ (edges : List Triple). edges ++ c.next_edge.new.self) c.in_ok-push.ensures.items
      ∙ append_assoc c.loop-edge.edges.items (c.in-Some.edge ∷ []) c.next_edge.new.self
      ∙ ap (λ (edges : List Triple). c.loop-edge.edges.items ++ edges) (sym c.in-Some.ensures.edge)
      ∙ c.loop-edge.invariant.edges;
}

pub returns : goal.returns
returns c =
    sym (append-nil c.loop-edge.edges.items)
    ∙ ap (λ (edges : List Triple). c.loop-edge.edges.items ++ edges) (sym c.in_default.ensures.edge)
    ∙ c.loop-edge.invariant.edges

-- What a matching says of its edges, counted at one of their ends.
use Rattle.std.proofs.Common.{◌≡◌, ℕ, ◌+◌, ◌<◌, ◌≤◌, cond, ◌==◌, List, length, get_or, All, ap, arith}
use Rattle.std.proofs.lemmas.Option.{get_or_from_slice_get}
use Rattle.std.proofs.lemmas.List.Elements.{All-get_or}
use Rattle.graph_text.specs.declared.graphs.Triple.{Triple}
use Rattle.edge_match.specs.Stubs.{Stubs, rank, stub_nodes}
use Rattle.edge_match.specs.Matching.{IsMatching}
use Rattle.edge_match.specs.Conforming.{NodeDegrees, edges_at}
use Rattle.edge_match.proofs.NodeLemmas.{times, times-stub_nodes, IsBetween, All-stub_nodes}
use Rattle.edge_match.proofs.PlaceLemmas.{sum_by-places, sum_by-different}

-- at one of their ends, edge r has the node of the stub of rank r
pub record JoinsByRank (end : Triple → ℕ) (stubs : Stubs) (edges : List Triple) : Type 0 where
  pub stub : (r : ℕ) (d : Triple) → r < length edges → (s : ℕ) × (s < length stubs.nodes) × (rank stubs s ≡ r) × (end (get_or edges r d) ≡ get_or stubs.nodes s 0)

pub JoinsByRank-sources : (outs ins : Stubs) (label : ℕ) (edges : List Triple) → IsMatching outs ins label edges
    → JoinsByRank (λ edge. edge.src) outs edges
JoinsByRank-sources outs ins label edges matching = record {
  stub = λ r d lt.
      let ranks = matching.ranked r lt in
      let edge = get_or_from_slice_get edges r _ d (matching.joins r ranks.0 ranks.1 lt ranks.2 ranks.3) in
      (ranks.0, ranks.2.0, ranks.2.1, ap (λ (e : Triple). e.src) edge);
}

pub JoinsByRank-targets : (outs ins : Stubs) (label : ℕ) (edges : List Triple) → IsMatching outs ins label edges
    → JoinsByRank (λ edge. edge.trg) ins edges
JoinsByRank-targets outs ins label edges matching = record {
  stub = λ r d lt.
      let ranks = matching.ranked r lt in
      let edge = get_or_from_slice_get edges r _ d (matching.joins r ranks.0 ranks.1 lt ranks.2 ranks.3) in
      (ranks.1, ranks.3.0, ranks.3.1, ap (λ (e : Triple). e.trg) edge);
}

pub label-IsMatching : (outs ins : Stubs) (label : ℕ) (edges : List Triple) → IsMatching outs ins label edges
    → All (λ edge. edge.label ≡ label) edges
label-IsMatching outs ins label edges matching = λ r d lt.
    let ranks = matching.ranked r lt in
    ap (λ (e : Triple). e.label) (get_or_from_slice_get edges r _ d (matching.joins r ranks.0 ranks.1 lt ranks.2 ranks.3))

-- the ends are nodes of the side
pub All-JoinsByRank : (end : Triple → ℕ) (key : ℕ → ℕ) (side : NodeDegrees) (edges : List Triple)
    → JoinsByRank end (record { key = key; nodes = stub_nodes side.first side.degrees }) edges
    → All (λ edge. IsBetween side.first (length side.degrees) (end edge)) edges
All-JoinsByRank end key side edges joins = λ r d lt.
    let own = joins.stub r d lt in
    rw own.3 (All-get_or (IsBetween side.first (length side.degrees)) (stub_nodes side.first side.degrees) own.0 0 own.1 (All-stub_nodes side.first side.degrees))

abbrev pub no_edge : Triple
no_edge = record { src = 0; label = 0; trg = 0 }

-- no node has more edges than stubs
edges_at-times : (end : Triple → ℕ) (stubs : Stubs) (edges : List Triple) (v : ℕ) → JoinsByRank end stubs edges
    → edges_at end edges v ≤ times v stubs.nodes
edges_at-times end stubs edges v joins =
    let f : ℕ → ℕ = λ s. cond (get_or stubs.nodes s 0 == v) 1 0 in
    let g : ℕ → ℕ = λ r. cond (end (get_or edges r no_edge) == v) 1 0 in
    let places = sum_by-places (λ x. cond (x == v) 1 0) stubs.nodes 0 0 f (λ i _. let here : 0 + i ≡ i = omega arith in ap f here) in
    let ranks = sum_by-places (λ e. cond (end e == v) 1 0) edges no_edge 0 g (λ i _. let here : 0 + i ≡ i = omega arith in ap g here) in
    let fewer = sum_by-different f g (rank stubs) (length edges) (length stubs.nodes)
    (λ r lt. let own = joins.stub r no_edge lt in (own.0, own.1, own.2, ap (λ n. cond (n == v) 1 0) own.3)) in
    omega (arith, places, ranks, fewer)

-- no node has more edges than its degree
pub edges_at-JoinsByRank : (end : Triple → ℕ) (key : ℕ → ℕ) (side : NodeDegrees) (edges : List Triple) (place : ℕ)
    → JoinsByRank end (record { key = key; nodes = stub_nodes side.first side.degrees }) edges → place < length side.degrees
    → edges_at end edges (side.first + place) ≤ get_or side.degrees place 0
edges_at-JoinsByRank end key side edges place joins lt =
    omega (arith, edges_at-times end _ edges (side.first + place) joins, times-stub_nodes side.first side.degrees place lt)

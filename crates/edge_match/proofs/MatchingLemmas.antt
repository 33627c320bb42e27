-- The nodes of the first stubs of two sides by rank, joined index by index, are a matching.
use Rattle.std.proofs.Common.{◌≡◌, ℕ, ◌<◌, ◌≤◌, List, ◌++◌, length, map, get_or, min, Some, ap, sym, subst, ◌∙◌, arith, length-append}
use Rattle.std.proofs.lemmas.List.{get_or-map, length-map, get_or_append_left}
use Rattle.std.proofs.lemmas.Option.{slice_get-get_or, get_or_from_slice_get}
use Rattle.std.proofs.lemmas.Slice.Zip.{length-zip, get_or-zip}
use Rattle.std.specs.List.{zip}
use Rattle.edge_match.specs.declared.stubs.Stub.{Stub}
use Rattle.edge_match.specs.Stubs.{Stubs, IsInRankOrder, AreFirstByRank}
use Rattle.edge_match.specs.Matching.{edge_between, edges_between, IsMatching}
use Rattle.edge_match.proofs.RankLemmas.{length-order, HasRank-order, stub-order}

abbrev no_stub : Stub
no_stub = record { key = 0; place = 0; node = 0 }

-- the nodes of the first of stubs in rank order
pub AreFirstByRank-order : (stubs : Stubs) (order rest : List Stub) (wanted : ℕ) (nodes : List ℕ)
    → nodes ≡ map (λ (stub : Stub). stub.node) order → min wanted (length stubs.nodes) ≤ length nodes
    → IsInRankOrder stubs (order ++ rest) → AreFirstByRank stubs wanted nodes
AreFirstByRank-order stubs order rest wanted nodes same enough ranked =
    let all = order ++ rest in
    let count : length nodes ≡ length order = ap length same ∙ length-map order (λ (stub : Stub). stub.node) in
    let both = length-append order rest in
    let whole = length-order stubs all ranked in
    record {
      within = omega (arith, count, both, whole);
      enough = enough;
      ranked = λ r lt. ((get_or all r no_stub).place, HasRank-order stubs all ranked r no_stub (omega (arith, lt, count, both)));
      node = λ r s lt at.
          let lt' : r < length order = omega (arith, lt, count) in
          let own = stub-order stubs all ranked r s no_stub at in
          let first = sym (get_or_append_left order rest no_stub r lt') ∙ own.1 in
          let node = get_or-map (λ (stub : Stub). stub.node) order r no_stub 0 lt' ∙ ap (λ (stub : Stub). stub.node) first in
          slice_get-get_or nodes r 0 lt ∙ ap Some (ap (λ (ns : List ℕ). get_or ns r 0) same ∙ node);
    }

IsMatching-edges_between : (outs ins : Stubs) (label wanted : ℕ) (sources targets : List ℕ)
    → wanted ≡ min (length outs.nodes) (length ins.nodes) → AreFirstByRank outs wanted sources
    → AreFirstByRank ins wanted targets → IsMatching outs ins label (edges_between label sources targets)
IsMatching-edges_between outs ins label wanted sources targets is first second =
    let pairs = zip sources targets in
    let long = length-map pairs (edge_between label) ∙ length-zip sources targets in
    record {
      count = omega (arith, long, is, first.within, first.enough, second.within, second.enough);
      ranked = λ r lt.
          let out_at = first.ranked r (omega (arith, long)) in
          let in_at = second.ranked r (omega (arith, long)) in
          (out_at.0, in_at.0, out_at.1, in_at.1);
      joins = λ r s t lt out_at in_at.
          let below = rw (length-map pairs (edge_between label)) at lt in
          let in_sources : r < length sources = omega (arith, long, lt) in
          let in_targets : r < length targets = omega (arith, long, lt) in
          let pair = get_or-zip sources targets r (0, 0) in_sources in_targets in
          let source : get_or sources r 0 ≡ get_or outs.nodes s 0 = get_or_from_slice_get sources r _ 0 (first.node r s in_sources out_at) in
          let target : get_or targets r 0 ≡ get_or ins.nodes t 0 = get_or_from_slice_get targets r _ 0 (second.node r t in_targets in_at) in
          let ends = pair ∙ ap (λ (n : ℕ). (n, get_or targets r 0)) source ∙ ap (λ (n : ℕ). (get_or outs.nodes s 0, n)) target in
          slice_get-get_or _ r (edge_between label (0, 0)) lt
          ∙ ap Some (get_or-map (edge_between label) pairs r (0, 0) (edge_between label (0, 0)) below ∙ ap (edge_between label) ends);
    }

-- the same, where the edges have the label under another name
pub IsMatching-from_nodes : (outs ins : Stubs) (label own wanted : ℕ) (sources targets : List ℕ) → own ≡ label
    → wanted ≡ min (length outs.nodes) (length ins.nodes) → AreFirstByRank outs wanted sources
    → AreFirstByRank ins wanted targets → IsMatching outs ins label (edges_between own sources targets)
IsMatching-from_nodes outs ins label own wanted sources targets same is first second =
    subst (λ n. IsMatching outs ins n (edges_between own sources targets)) same (IsMatching-edges_between outs ins own wanted sources targets is first second)

-- there are as many edges as nodes in the shorter list
pub length-edges_between : (label : ℕ) (sources targets : List ℕ) → length (edges_between label sources targets) ≡ min (length sources) (length targets)
length-edges_between label sources targets = length-map (zip sources targets) (edge_between label) ∙ length-zip sources targets

-- Nodes that together have as many edges as their degrees allow have exactly their degrees.
use Rattle.std.proofs.Common.{◌≡◌, ℕ, zero, suc, ◌+◌, ◌-◌, ◌<◌, ◌≤◌, Bool, true, false, cond, ◌==◌, ◌&&◌, nat_lt, nat_le, List, [], ◌∷◌, length, sum, min, filter, get_or, All, inl, inr, refl, ap, sym, ◌∙◌, arith}
use Rattle.std.specs.List.{range_with_len, sum_by}
use Rattle.std.proofs.lemmas.Bool.{cases_Bool, cases_eq}
use Rattle.std.proofs.lemmas.Bool.Decides.{nat_tests}
use Rattle.std.proofs.lemmas.List.Sums.{sum_by-cons}
use Rattle.std.proofs.lemmas.List.Elements.{All-nil, All-cons, All-head, All-tail, All-weaker}
use Rattle.graph_text.specs.declared.graphs.Triple.{Triple}
use Rattle.edge_match.specs.Stubs.{Stubs, stub_nodes}
use Rattle.edge_match.specs.Matching.{IsMatching}
use Rattle.edge_match.specs.Conforming.{NodeDegrees, edges_at, IsNodeOf, KeepsDegrees, MeetsDegrees, Conforms}
use Rattle.gm_config.specs.Config.{ConfigValue}
use Rattle.edge_match.specs.declared.config_sides.Side.{Side}
use Rattle.edge_match.specs.declared.config_sides.Side.TheVariants.{Out, In}
use Rattle.edge_match.specs.ConfigSides.{opposite, label_at}
use Rattle.edge_match.specs.DrawnDegrees.{side_total, node_degrees}
use Rattle.edge_match.specs.ConformingGraph.{is_node_at, end_at, is_triple_of, triples_of}
use Rattle.edge_match.specs.AllEdges.{SmallerSideIsMet}
use Rattle.edge_match.proofs.FreeSideLemmas.{test-same}
use Rattle.edge_match.proofs.SideLemmas.{length-side_degrees}
use Rattle.edge_match.proofs.TotalLemmas.{sum-side_degrees}
use Rattle.edge_match.proofs.NodeLemmas.{IsBetween}
use Rattle.edge_match.proofs.StubLemmas.{length-stub_nodes}
use Rattle.edge_match.proofs.PlaceLemmas.{sum_by-places, sum_by-nothing, sum_by-plus, count_by-one}
use Rattle.edge_match.proofs.MatchedLemmas.{JoinsByRank, JoinsByRank-sources, JoinsByRank-targets, label-IsMatching, All-JoinsByRank, edges_at-JoinsByRank}

test-true : (a b : ℕ) → (a == b) ≡ true → a ≡ b
test-true a b same = grind (arith, nat_tests)

sum_by-le : (f g : ℕ → ℕ) (a n : ℕ) → ((i : ℕ) → a ≤ i → i < a + n → f i ≤ g i)
    → sum_by f (range_with_len a n) ≤ sum_by g (range_with_len a n)
sum_by-le f g a zero le = omega arith
sum_by-le f g a (suc n) le =
    let rest = range_with_len (a + 1) n in
    omega (arith, sum_by-cons f a rest, sum_by-cons g a rest, le a (omega arith) (omega arith), sum_by-le f g (a + 1) n (λ i low high. le i (omega arith) (omega arith)))

-- numbers that are at most others, and have no smaller sum, are these
sum_by-tight : (f g : ℕ → ℕ) (a n : ℕ) → ((i : ℕ) → a ≤ i → i < a + n → f i ≤ g i)
    → sum_by g (range_with_len a n) ≤ sum_by f (range_with_len a n) → (i : ℕ) → a ≤ i → i < a + n → f i ≡ g i
sum_by-tight f g a zero le sums i low high = absurd (omega arith)
sum_by-tight f g a (suc n) le sums i low high =
    let rest = range_with_len (a + 1) n in
    let first = sum_by-cons f a rest in
    let second = sum_by-cons g a rest in
    let here = le a (omega arith) (omega arith) in
    let others = sum_by-le f g (a + 1) n (λ j above below. le j (omega arith) (omega arith)) in
    elim (cases_eq i a) [
      | inl same ↦ ap f same ∙ omega (arith, sums, first, second, here, others) ∙ sym (ap g same)
      | inr differ ↦
          sum_by-tight f g (a + 1) n (λ j above below. le j (omega arith) (omega arith)) (omega (arith, sums, first, second, here)) i (omega arith) (omega arith)
    ]

-- each edge is one of a node
sum_by-edges_at : (end : Triple → ℕ) (first n : ℕ) (edges : List Triple) → All (λ edge. IsBetween first n (end edge)) edges
    → sum_by (λ place. edges_at end edges (first + place)) (range_with_len 0 n) ≡ length edges
sum_by-edges_at end first n [] nodes = sum_by-nothing (λ place. edges_at end [] (first + place)) 0 n (λ _ _ _. refl)
sum_by-edges_at end first n (e ∷ es) nodes =
    let own = All-head (λ edge. IsBetween first n (end edge)) e es nodes in
    let rest = sum_by-edges_at end first n es (All-tail (λ edge. IsBetween first n (end edge)) e es nodes) in
    let one = count_by-one (λ place. end e == first + place) n (end e - first) (omega (arith, own.0, own.1)) (test-same _ _ (omega (arith, own.0))) (λ i lt here. omega (arith, test-true (end e) (first + i) here)) in
    let more = sum_by-plus (λ place. cond (end e == first + place) 1 0) (λ place. edges_at end es (first + place)) (λ place. edges_at end (e ∷ es) (first + place)) 0 n
    (λ place. sum_by-cons (λ (edge : Triple). cond (end edge == first + place) 1 0) e es) in
    more ∙ omega (arith, one, rest)

pub MeetsDegrees-number : (end : Triple → ℕ) (side : NodeDegrees) (edges : List Triple) → KeepsDegrees end side edges
    → sum side.degrees ≤ length edges → MeetsDegrees end side edges
MeetsDegrees-number end side edges keeps number place lt =
    let n = length side.degrees in
    let f : ℕ → ℕ = λ p. edges_at end edges (side.first + p) in
    let g : ℕ → ℕ = λ p. get_or side.degrees p 0 in
    let degrees = sum_by-places (λ x. x) side.degrees 0 0 g (λ i _. let here : 0 + i ≡ i = omega arith in ap g here) in
    let edges = sum_by-edges_at end side.first n edges keeps.nodes in
    sum_by-tight f g 0 n (λ i _ high. keeps.within i (omega arith)) (omega (arith, degrees, edges, number)) place (omega arith) (omega (arith, lt))

-- the stubs of a side, with keys that are not looked at here
abbrev keyed : (ℕ → ℕ) → NodeDegrees → Stubs
keyed key side = record { key = key; nodes = stub_nodes side.first side.degrees }

KeepsDegrees-JoinsByRank : (end : Triple → ℕ) (key : ℕ → ℕ) (side : NodeDegrees) (edges : List Triple)
    → JoinsByRank end (keyed key side) edges → KeepsDegrees end side edges
KeepsDegrees-JoinsByRank end key side edges joins = record {
  nodes = All-JoinsByRank end key side edges joins;
  within = λ place lt. edges_at-JoinsByRank end key side edges place joins lt;
}

-- edges that join stubs by rank keep to the degrees of both sides, and use up the smaller side
pub Conforms-IsMatching : (out_key in_key : ℕ → ℕ) (outs ins : NodeDegrees) (label : ℕ) (edges : List Triple)
    → IsMatching (keyed out_key outs) (keyed in_key ins) label edges → Conforms outs ins label edges
Conforms-IsMatching out_key in_key outs ins label edges matching =
    let out_count = length-stub_nodes outs.first outs.degrees in
    let in_count = length-stub_nodes ins.first ins.degrees in
    let number : length edges ≡ min (sum outs.degrees) (sum ins.degrees) = omega (arith, matching.count, out_count, in_count) in
    let sources = KeepsDegrees-JoinsByRank (λ edge. edge.src) out_key outs edges (JoinsByRank-sources _ _ label edges matching) in
    let targets = KeepsDegrees-JoinsByRank (λ edge. edge.trg) in_key ins edges (JoinsByRank-targets _ _ label edges matching) in
    record {
      labels = label-IsMatching _ _ label edges matching;
      number = number;
      sources = sources;
      targets = targets;
      sources_met = λ fewer. MeetsDegrees-number (λ edge. edge.src) outs edges sources (omega (arith, number, fewer));
      targets_met = λ fewer. MeetsDegrees-number (λ edge. edge.trg) ins edges targets (omega (arith, number, fewer));
    }

-- what passes a filter passes its test
All-filter_test : {A : Type 0} (p : A → Bool) (xs : List A) → All (λ x. p x ≡ true) (filter p xs)
All-filter_test p [] = All-nil (λ x. p x ≡ true)
All-filter_test p (x ∷ xs) =
    elim (cases_Bool (p x)) [
      | inl passes ↦ rw passes (All-cons (λ y. p y ≡ true) x (filter p xs) passes (All-filter_test p xs))
      | inr fails ↦ rw fails (All-filter_test p xs)
    ]

all_three : (a b c : Bool) → a && b && c ≡ true → (a ≡ true) × (c ≡ true)
all_three true true true all = (refl, refl)
all_three true true false all = absurd (cc)
all_three true false c all = absurd (cc)
all_three false b c all = absurd (cc)

is_node_at-triple : (config : ConfigValue) (c : ℕ) (side : Side) (triple : Triple) → is_triple_of config c triple ≡ true
    → is_node_at config c side (end_at side triple) ≡ true
is_node_at-triple config c Out triple own = (all_three (is_node_at config c Out triple.src) (triple.label == label_at config c) (is_node_at config c In triple.trg) own).0
is_node_at-triple config c In triple own = (all_three (is_node_at config c Out triple.src) (triple.label == label_at config c) (is_node_at config c In triple.trg) own).1

test-between : (first count n v : ℕ) → n ≡ count → nat_le first v && nat_lt v (first + count) ≡ true → IsBetween first n v
test-between first count n v same between = (grind (arith, nat_tests), grind (arith, nat_tests))

number_of_fewer : (config : ConfigValue) (seed c : ℕ) (side : Side) (number : ℕ) → number ≡ min (side_total config seed c Out) (side_total config seed c In)
    → side_total config seed c side ≤ side_total config seed c (opposite side) → number ≡ side_total config seed c side
number_of_fewer config seed c Out number is fewer = omega arith
number_of_fewer config seed c In number is fewer = omega arith

-- conforming triples use up the degrees of the smaller side
pub SmallerSideIsMet-IsConforming : SmallerSideIsMet
SmallerSideIsMet-IsConforming config seed c side place triples conforms known lt fewer =
    let nodes = node_degrees config seed c side in
    let own = triples_of config c triples in
    let count = length-side_degrees config seed c side in
    let keeps : KeepsDegrees (end_at side) nodes own = record {
      nodes = All-weaker (λ triple. is_triple_of config c triple ≡ true) (λ triple. IsNodeOf nodes (end_at side triple))
          (λ triple is. test-between _ _ _ _ count (is_node_at-triple config c side triple is)) own (All-filter_test (is_triple_of config c) triples);
      within = λ p below. conforms.degrees c side p known (rw count at below);
    } in
    let number = number_of_fewer config seed c side (length own) (conforms.numbers c known) fewer in
    MeetsDegrees-number (end_at side) nodes own keeps (omega (arith, number, sum-side_degrees config seed c side)) place (rw count lt)

-- The edges of all constraints conform.
use Rattle.std.proofs.Common.{◌≡◌, ℕ, zero, suc, ◌+◌, ◌<◌, ◌≤◌, Bool, true, false, ◌&&◌, nat_lt, nat_le, List, [], ◌∷◌, ◌++◌, length, get_or, min, filter, All, inl, inr, refl, ap, sym, ◌∙◌, arith, add-one}
use Rattle.std.proofs.lemmas.Bool.{cases_lt}
use Rattle.std.proofs.lemmas.Bool.Decides.{nat_tests}
use Rattle.std.proofs.lemmas.List.{append-nil}
use Rattle.std.proofs.lemmas.List.FromFn.{fill_by_all}
use Rattle.std.proofs.lemmas.Option.{get_or_from_slice_get}
use Rattle.std.proofs.lemmas.List.Elements.{All-nil, All-head, All-tail, All-append, All-weaker, filter-append}
use Rattle.graph_text.specs.declared.graphs.Triple.{Triple}
use Rattle.gm_config.specs.Config.{ConfigValue, IsConfig}
use Rattle.gm_config.proofs.ConfigLemmas.{all_true}
use Rattle.edge_match.specs.declared.config_sides.Side.{Side}
use Rattle.edge_match.specs.declared.config_sides.Side.TheVariants.{Out, In}
use Rattle.edge_match.specs.ConfigSides.{label_at, side_first, side_count}
use Rattle.edge_match.specs.DrawnDegrees.{side_degrees, side_total, node_degrees, side_stubs}
use Rattle.edge_match.specs.Stubs.{Stubs}
use Rattle.edge_match.specs.Matching.{IsMatching}
use Rattle.edge_match.specs.Conforming.{edges_at}
use Rattle.edge_match.specs.ConformingGraph.{is_node_at, end_at, is_triple_of, triples_of, HasOneConstraint, IsConforming}
use Rattle.edge_match.specs.AllEdges.{AreEdgesOf, AreEdgesBefore, AreAllEdges}
use Rattle.edge_match.proofs.FreeSideLemmas.{test-same}
use Rattle.edge_match.proofs.StubLemmas.{length-stub_nodes}
use Rattle.edge_match.proofs.SideLemmas.{length-side_degrees}
use Rattle.edge_match.proofs.TotalLemmas.{sum-side_degrees}
use Rattle.edge_match.proofs.PlaceLemmas.{count_by-one}
use Rattle.edge_match.proofs.TypeLemmas.{same_constraint}
use Rattle.edge_match.proofs.MatchedLemmas.{no_edge, JoinsByRank, JoinsByRank-sources, JoinsByRank-targets, label-IsMatching, All-JoinsByRank, edges_at-JoinsByRank}

-- what is true of the edges of one constraint
pub record KeepsConstraint (config : ConfigValue) (seed c : ℕ) (edges : List Triple) : Type 0 where
  pub each : All (λ triple. is_triple_of config c triple ≡ true) edges
  pub degrees : (side : Side) (place : ℕ) → place < side_count config c side
      → edges_at (end_at side) edges (side_first config c side + place) ≤ get_or (side_degrees config seed c side) place 0
  pub number : length edges ≡ min (side_total config seed c Out) (side_total config seed c In)

test-between : (first count v : ℕ) → first ≤ v → v < first + count → nat_le first v && nat_lt v (first + count) ≡ true
test-between first count v low high = grind (arith, nat_tests)

JoinsByRank-end_at : (config : ConfigValue) (seed c : ℕ) (side : Side) (edges : List Triple) → AreEdgesOf config seed c edges
    → JoinsByRank (end_at side) (side_stubs config seed c side) edges
JoinsByRank-end_at config seed c Out edges matching = JoinsByRank-sources _ _ _ edges matching
JoinsByRank-end_at config seed c In edges matching = JoinsByRank-targets _ _ _ edges matching

is_node_at-AreEdgesOf : (config : ConfigValue) (seed c : ℕ) (side : Side) (edges : List Triple) → AreEdgesOf config seed c edges
    → All (λ edge. is_node_at config c side (end_at side edge) ≡ true) edges
is_node_at-AreEdgesOf config seed c side edges matching = λ r d lt.
    let ends = All-JoinsByRank (end_at side) _ (node_degrees config seed c side) edges (JoinsByRank-end_at config seed c side edges matching) r d lt in
    test-between (side_first config c side) (side_count config c side) (end_at side (get_or edges r d)) ends.0 (rw (length-side_degrees config seed c side) at ends.1)

length-side_stubs : (config : ConfigValue) (seed c : ℕ) (side : Side) → length (side_stubs config seed c side).nodes ≡ side_total config seed c side
length-side_stubs config seed c side = length-stub_nodes (side_first config c side) (side_degrees config seed c side) ∙ sum-side_degrees config seed c side

KeepsConstraint-AreEdgesOf : (config : ConfigValue) (seed c : ℕ) (edges : List Triple) → AreEdgesOf config seed c edges
    → KeepsConstraint config seed c edges
KeepsConstraint-AreEdgesOf config seed c edges matching = record {
  each = λ r d lt.
      all_true _ _ _ (is_node_at-AreEdgesOf config seed c Out edges matching r d lt)
      (test-same _ _ (label-IsMatching _ _ (label_at config c) edges matching r d lt))
      (is_node_at-AreEdgesOf config seed c In edges matching r d lt);
  degrees = λ side place lt.
      edges_at-JoinsByRank (end_at side) _ (node_degrees config seed c side) edges place (JoinsByRank-end_at config seed c side edges matching) (rw (length-side_degrees config seed c side) lt);
  number = matching.count ∙ ap (λ n. min n (length (side_stubs config seed c In).nodes)) (length-side_stubs config seed c Out) ∙ ap (min (side_total config seed c Out)) (length-side_stubs config seed c In);
}

filter-all : {A : Type 0} (p : A → Bool) (xs : List A) → All (λ x. p x ≡ true) xs → filter p xs ≡ xs
filter-all p [] all = refl
filter-all p (x ∷ xs) all =
    rw (All-head (λ y. p y ≡ true) x xs all) (ap (λ ys. x ∷ ys) (filter-all p xs (All-tail (λ y. p y ≡ true) x xs all)))

filter-none : {A : Type 0} (p : A → Bool) (xs : List A) → All (λ x. p x ≡ false) xs → filter p xs ≡ []
filter-none p [] all = refl
filter-none p (x ∷ xs) all =
    rw (All-head (λ y. p y ≡ false) x xs all) (filter-none p xs (All-tail (λ y. p y ≡ false) x xs all))

not-true : (b : Bool) → (b ≡ true → ⊥) → b ≡ false
not-true true not_true = absurd (not_true refl)
not-true false not_true = refl

-- a triple is one of some constraint before constraint n
abbrev IsBefore : ConfigValue → ℕ → Triple → Type 0
IsBefore config n triple = (c : ℕ) × (c < n) × (is_triple_of config c triple ≡ true)

-- edges of the constraints before constraint n, told apart by their constraints
pub record IsSorted (config : ConfigValue) (seed n : ℕ) (edges : List Triple) : Type 0 where
  pub own : (c : ℕ) → c < n → AreEdgesOf config seed c (triples_of config c edges)
  pub each : All (IsBefore config n) edges

-- no edges of other constraints are those of constraint c
triples_of-other : (config : ConfigValue) (c : ℕ) (edges : List Triple)
    → All (λ triple. is_triple_of config c triple ≡ true → ⊥) edges → triples_of config c edges ≡ []
triples_of-other config c edges others =
    filter-none (is_triple_of config c) edges (All-weaker _ (λ triple. is_triple_of config c triple ≡ false) (λ triple other. not-true (is_triple_of config c triple) other) edges others)

-- the edges of one constraint more
IsSorted-append : (config : ConfigValue) (seed n : ℕ) (before own : List Triple) → IsConfig config → n < length config.constraints
    → IsSorted config seed n before → AreEdgesOf config seed n own → IsSorted config seed (suc n) (before ++ own)
IsSorted-append config seed n before own rules known sorted matching =
    let keeps = KeepsConstraint-AreEdgesOf config seed n own matching in
    let apart = λ (c : ℕ). filter-append (is_triple_of config c) before own in
    record {
      own = λ c lt.
          elim (cases_lt c n) [
            | inl less ↦
                let none = triples_of-other config c own (All-weaker _ (λ triple. is_triple_of config c triple ≡ true → ⊥) (λ triple mine other. let same : c ≡ n = same_constraint config c n triple rules (omega arith) known other mine in omega arith) own keeps.each) in
                rw (apart c, none, append-nil) (sorted.own c less)
            | inr no_less ↦
                let last : c ≡ n = omega arith in
                let none = triples_of-other config n before (All-weaker (IsBefore config n) (λ triple. is_triple_of config n triple ≡ true → ⊥) (λ triple other mine. let same : other.0 ≡ n = same_constraint config other.0 n triple rules (omega (arith, other.1)) known other.2 mine in omega (arith, same, other.1)) before sorted.each) in
                rw (last, apart n, none, filter-all (is_triple_of config n) own keeps.each) matching
          ];
      each = All-append (IsBefore config (suc n)) before own
          (All-weaker (IsBefore config n) (IsBefore config (suc n)) (λ triple is. (is.0, omega (arith, is.1), is.2)) before sorted.each)
          (All-weaker _ (IsBefore config (suc n)) (λ triple mine. (n, omega arith, mine)) own keeps.each);
    }

IsSorted-AreEdgesBefore : (config : ConfigValue) (seed n : ℕ) (edges : List Triple) → IsConfig config → n ≤ length config.constraints
    → AreEdgesBefore config seed n edges → IsSorted config seed n edges
unfolding AreEdgesBefore
IsSorted-AreEdgesBefore config seed zero edges rules known none = record {
  own = λ c lt. absurd (omega arith);
  each = rw none (All-nil (IsBefore config 0));
}
IsSorted-AreEdgesBefore config seed (suc n) edges rules known parts =
    let before = IsSorted-AreEdgesBefore config seed n parts.0 rules (omega arith) parts.2 in
    rw parts.4 (IsSorted-append config seed n parts.0 parts.1 rules (omega arith) before parts.3)

-- the edges of all constraints conform
pub IsConforming-AreAllEdges : (config : ConfigValue) (seed : ℕ) (edges : List Triple) → IsConfig config
    → AreAllEdges config seed edges → IsConforming config seed edges
IsConforming-AreAllEdges config seed edges rules all =
    let n = length config.constraints in
    let sorted = IsSorted-AreEdgesBefore config seed n edges rules (omega arith) all in
    let keeps = λ (c : ℕ) (known : c < n). KeepsConstraint-AreEdgesOf config seed c (triples_of config c edges) (sorted.own c known) in
    record {
      constraints = All-weaker (IsBefore config n) (HasOneConstraint config)
          (λ triple is. count_by-one (λ c. is_triple_of config c triple) n is.0 is.1 is.2 (λ c known mine. same_constraint config c is.0 triple rules known is.1 mine is.2))
          edges sorted.each;
      degrees = λ c side place known lt. (keeps c known).degrees side place lt;
      numbers = λ c known. (keeps c known).number;
    }

-- before constraint 0 there are no edges
pub AreEdgesBefore-none : (config : ConfigValue) (seed : ℕ) → AreEdgesBefore config seed 0 []
unfolding AreEdgesBefore
AreEdgesBefore-none config seed = refl

-- the edges of the next constraint follow
pub AreEdgesBefore-more : (config : ConfigValue) (seed c : ℕ) (before own : List Triple) → AreEdgesBefore config seed c before
    → AreEdgesOf config seed c own → AreEdgesBefore config seed (c + 1) (before ++ own)
unfolding AreEdgesBefore
AreEdgesBefore-more config seed c before own earlier matching = rw add-one (before, own, earlier, matching, refl)

-- two stubs, one on each side, have one edge of each rank
IsMatching-one : (outs ins : Stubs) (label : ℕ) (edges others : List Triple) → IsMatching outs ins label edges
    → IsMatching outs ins label others → edges ≡ others
IsMatching-one outs ins label edges others first second =
    let n = length edges in
    let same : length others ≡ n = second.count ∙ sym first.count in
    let at : ℕ → Triple = λ r. get_or others r no_edge in
    fill_by_all at edges n no_edge refl
    (λ r lt.
    let ranks = first.ranked r lt in
    get_or_from_slice_get edges r _ no_edge (first.joins r ranks.0 ranks.1 lt ranks.2 ranks.3)
    ∙ sym (get_or_from_slice_get others r _ no_edge (second.joins r ranks.0 ranks.1 (rw same lt) ranks.2 ranks.3)))
    ∙ sym (fill_by_all at others n no_edge same (λ r lt. refl))

AreEdgesBefore-one : (config : ConfigValue) (seed n : ℕ) (edges others : List Triple) → AreEdgesBefore config seed n edges
    → AreEdgesBefore config seed n others → edges ≡ others
unfolding AreEdgesBefore
AreEdgesBefore-one config seed zero edges others first second = first ∙ sym second
AreEdgesBefore-one config seed (suc n) edges others first second =
    first.4
    ∙ ap (λ before. before ++ first.1) (AreEdgesBefore-one config seed n first.0 second.0 first.2 second.2)
    ∙ ap (λ own. second.0 ++ own) (IsMatching-one _ _ _ first.1 second.1 first.3 second.3)
    ∙ sym second.4

-- there is one list alone of the edges of all constraints
pub AreAllEdges-one : (config : ConfigValue) (seed : ℕ) (edges others : List Triple) → AreAllEdges config seed edges
    → AreAllEdges config seed others → edges ≡ others
AreAllEdges-one config seed edges others first second = AreEdgesBefore-one config seed (length config.constraints) edges others first second

-- No triple is one of two constraints.
use Rattle.std.proofs.Common.{◌≡◌, ℕ, zero, suc, ◌+◌, ◌<◌, ◌≤◌, true, ◌&&◌, ◌==◌, nat_lt, nat_le, List, [], ◌∷◌, length, map, take, get_or, sum, inl, inr, sym, ◌∙◌, arith}
use Rattle.std.proofs.lemmas.Bool.{cases_lt}
use Rattle.std.proofs.lemmas.Bool.Decides.{nat_tests}
use Rattle.std.proofs.lemmas.List.{length-map, get_or-map}
use Rattle.std.proofs.lemmas.List.Sums.{sum_by-cons}
use Rattle.graph_text.specs.declared.graphs.Triple.{Triple}
use Rattle.gm_config.specs.Config.{ConfigValue, IsConfig, node_counts, ends}
use Rattle.gm_config.proofs.ConfigLemmas.{three_true}
use Rattle.edge_match.specs.declared.config_sides.Side.TheVariants.{Out, In}
use Rattle.edge_match.specs.ConfigSides.{no_constraint, constraint_at, label_at}
use Rattle.edge_match.specs.ConformingGraph.{is_node_at, is_triple_of}
use Rattle.edge_match.proofs.NodeLemmas.{IsBetween}

-- the elements before an element, and that element, are among those before each later one
sum-take-le : (xs : List ℕ) (s t : ℕ) → s < t → sum (take s xs) + get_or xs s 0 ≤ sum (take t xs)
sum-take-le [] zero zero lt = absurd (omega arith)
sum-take-le [] zero (suc t) lt = omega arith
sum-take-le [] (suc s) zero lt = absurd (omega arith)
sum-take-le [] (suc s) (suc t) lt = omega arith
sum-take-le (x ∷ xs) zero zero lt = absurd (omega arith)
sum-take-le (x ∷ xs) zero (suc t) lt = omega (arith, sum_by-cons (λ n. n) x (take t xs))
sum-take-le (x ∷ xs) (suc s) zero lt = absurd (omega arith)
sum-take-le (x ∷ xs) (suc s) (suc t) lt =
    omega (arith, sum_by-cons (λ n. n) x (take s xs), sum_by-cons (λ n. n) x (take t xs), sum-take-le xs s t (omega arith))

-- a node is one of a type
abbrev IsOfType : List ℕ → ℕ → ℕ → Type 0
IsOfType counts t v = IsBetween (sum (take t counts)) (get_or counts t 0) v

-- a node is one of one type alone
same_type : (counts : List ℕ) (s t v : ℕ) → IsOfType counts s v → IsOfType counts t v → s ≡ t
same_type counts s t v of_s of_t =
    elim (cases_lt s t) [
      | inl less ↦ absurd (omega (arith, of_s.1, of_t.0, sum-take-le counts s t less))
      | inr no_less ↦ elim (cases_lt t s) [
        | inl more ↦ absurd (omega (arith, of_t.1, of_s.0, sum-take-le counts t s more))
        | inr no_more ↦ omega arith
      ]
    ]

between : (first count v : ℕ) → nat_le first v && nat_lt v (first + count) ≡ true → (first ≤ v) × (v < first + count)
between first count v test = grind (arith, nat_tests)

test-same : (a b : ℕ) → (a == b) ≡ true → a ≡ b
test-same a b same = grind (arith, nat_tests)

-- a triple's end nodes and its label tell the ends of its constraint
ends-is_triple_of : (config : ConfigValue) (b c : ℕ) (triple : Triple) → is_triple_of config b triple ≡ true
    → is_triple_of config c triple ≡ true → ends (constraint_at config b) ≡ ends (constraint_at config c)
ends-is_triple_of config b c triple of_b of_c =
    let at_b = three_true (is_node_at config b Out triple.src) (triple.label == label_at config b) (is_node_at config b In triple.trg) of_b in
    let at_c = three_true (is_node_at config c Out triple.src) (triple.label == label_at config c) (is_node_at config c In triple.trg) of_c in
    let source = same_type (node_counts config) _ _ triple.src (between _ _ triple.src at_b.0) (between _ _ triple.src at_c.0) in
    let label = sym (test-same triple.label _ at_b.1) ∙ test-same triple.label _ at_c.1 in
    let target = same_type (node_counts config) _ _ triple.trg (between _ _ triple.trg at_b.2) (between _ _ triple.trg at_c.2) in
    λ i. (source i, (label i, target i))

ends-later : (config : ConfigValue) (b c : ℕ) → IsConfig config → b < c → c < length config.constraints
    → ends (constraint_at config b) ≡ ends (constraint_at config c) → ⊥
ends-later config b c rules less known same =
    let known' : c < length (map ends config.constraints) = rw (length-map config.constraints ends) known in
    rules.constraints_differ b c (ends no_constraint) less known'
    (get_or-map ends config.constraints b no_constraint (ends no_constraint) (omega arith) ∙ same ∙ sym (get_or-map ends config.constraints c no_constraint (ends no_constraint) known))

-- a triple is one of one constraint alone
pub same_constraint : (config : ConfigValue) (b c : ℕ) (triple : Triple) → IsConfig config
    → b < length config.constraints → c < length config.constraints → is_triple_of config b triple ≡ true
    → is_triple_of config c triple ≡ true → b ≡ c
same_constraint config b c triple rules b_known c_known of_b of_c =
    let same = ends-is_triple_of config b c triple of_b of_c in
    elim (cases_lt b c) [
      | inl less ↦ absurd (ends-later config b c rules less c_known same)
      | inr no_less ↦ elim (cases_lt c b) [
        | inl more ↦ absurd (ends-later config c b rules more b_known (sym same))
        | inr no_more ↦ omega arith
      ]
    ]

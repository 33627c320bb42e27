-- The configuration of a value that breaks no rule is one.
use Rattle.std.proofs.Common.{◌≡◌, ℕ, ◌+◌, ◌<◌, ◌≤◌, List, [], ◌∷◌, map, length, take, get_or, sum, Bool, true, false, not, ◌&&◌, cond, nat_le, nat_lt, Option, Some, None, is_some, All, AllPairs, refl, sym, ap, ◌∙◌, arith}
use Rattle.std.specs.Prelude.{unwrap_or, codes, position}
use Rattle.std.specs.Option.{option_map_or, option_or, option_map}
use Rattle.std.specs.List.{sum_by, fold, prefix_len}
use Rattle.std.specs.Str.{bytes_eq}
use Rattle.std.proofs.lemmas.Bool.{leb-true, ltb-true}
use Rattle.std.proofs.lemmas.List.{length-map, take-map, get_or-map}
use Rattle.std.proofs.lemmas.List.Elements.{All-map}
use Rattle.std.proofs.lemmas.List.Sums.{sum-map, prefix_len_stops, sum_by_more_le, sum_by-take-le}
use Rattle.std.proofs.lemmas.Simd.{map-map}
use Rattle.std.proofs.lemmas.Slice.Eq.{bytes_eq-Decides}
use Rattle.serde_json.specs.Data.{Data, null}
use Rattle.gm_text.specs.Name.{IsName}
use Rattle.gm_config.specs.Json.{text}
use Rattle.gm_config.specs.Limits.{nodes_most, types_most, labels_most, constraints_most, thousand}
use Rattle.gm_config.specs.Rule.{Rule, first_failing, first_broken, has_within}
use Rattle.gm_config.specs.Rules.{rules}
use Rattle.gm_config.specs.TypeRules.{nodes_of, types, type_name, type_amount, share, node_count, type_share, type_nodes, is_named_type, same_type_name}
use Rattle.gm_config.specs.LabelRules.{labels, is_label, same_label}
use Rattle.gm_config.specs.ConstraintRules.{constraints, source_of, label_of, target_of, type_place, label_place, out_of, in_of, has_known_names, same_names, has_out_spec, has_in_spec, has_bound_side, is_free}
use Rattle.gm_config.specs.WorkloadRules.{KeepsWorkloadRules, workload_of}
use Rattle.gm_config.specs.Config.{ConfigValue, IsConfig, IsConstraint, IsAmount, IsCount, ends, node_counts, first_node}
use Rattle.gm_config.specs.Reading.{type_of, constraint_of, config_of}
use Rattle.gm_config.specs.declared.values.NodeType.{NodeType}
use Rattle.gm_config.specs.declared.values.Constraint.{Constraint}
use Rattle.gm_config.specs.declared.workload_rules.Workload.{Workload}
use Rattle.gm_config.specs.declared.values.Amount.TheVariants.{Share, Count}
use Rattle.gm_config.proofs.NumberLemmas.{number_at-limits}
use Rattle.gm_config.proofs.DegreeSpecLemmas.{IsDegreeSpec-degree_spec_of}
use Rattle.gm_config.proofs.WorkloadLemmas.{IsWorkload-workload_of}
use Rattle.gm_config.proofs.RuleLemmas.{not-true, not-false, first_failing-none, All-holds_at, AllPairs-differs_at, AllDiffer-map}
use Rattle.gm_config.proofs.FreeLemmas.{is_free-Free}

-- ---- which rules a value keeps

-- no rule fails at any of its indices
abbrev Kept : List Rule → Data → Type 0
Kept [] d = Unit {0}
Kept (rule ∷ rules) d = (first_failing (rule.holds d) (rule.tries d) ≡ None) × Kept rules d

not_broken : {A B : Type 0} (o : Option A) (f : A → B) (rest : Option B) → option_map_or (λ i. Some (f i)) o rest ≡ None → (o ≡ None) × (rest ≡ None)
not_broken None f rest none = (refl, none)
not_broken (Some i) f rest none = absurd (cc)

Kept-first_broken : (rules : List Rule) (d : Data) → first_broken rules d ≡ None → Kept rules d
Kept-first_broken [] d none = tt
Kept-first_broken (rule ∷ rules) d none =
    let parts = not_broken (first_failing (rule.holds d) (rule.tries d)) (λ i. (rule.number, i)) (first_broken rules d) none in
    (parts.0, Kept-first_broken rules d parts.1)

one : (b : Bool) → first_failing (λ i. b) 1 ≡ None → b ≡ true
one b none = first_failing-none (λ i. b) 1 none 0 (omega arith)

-- what the rules say of the elements of a value
pub record Keeps (d : Data) : Type 0 where
  pub node_number : is_some (nodes_of d) ≡ true
  pub type_count : has_within types_most (types d) ≡ true
  pub type_names : All (λ t. is_named_type t ≡ true) (types d)
  pub types_differ : AllPairs (λ s t. same_type_name t s ≡ false) (types d)
  pub shares : nat_le (sum_by type_share (types d)) thousand ≡ true
  pub all_nodes : nat_le (sum_by (type_nodes (unwrap_or (nodes_of d) 0)) (types d)) nodes_most ≡ true
  pub label_count : has_within labels_most (labels d) ≡ true
  pub label_names : All (λ l. is_label l ≡ true) (labels d)
  pub labels_differ : AllPairs (λ l m. same_label m l ≡ false) (labels d)
  pub constraint_count : has_within constraints_most (constraints d) ≡ true
  pub known_names : All (λ c. has_known_names d c ≡ true) (constraints d)
  pub constraints_differ : AllPairs (λ b c. same_names c b ≡ false) (constraints d)
  pub out_specs : All (λ c. has_out_spec c ≡ true) (constraints d)
  pub in_specs : All (λ c. has_in_spec c ≡ true) (constraints d)
  pub bound_sides : All (λ c. has_bound_side c ≡ true) (constraints d)
  pub workload : KeepsWorkloadRules d

pub Keeps-first_broken : (d : Data) → first_broken rules d ≡ None → Keeps d
Keeps-first_broken d none =
    let from_2 = (Kept-first_broken rules d none).1 in
    let from_5 = from_2.1.1.1 in
    let from_8 = from_5.1.1.1 in
    let from_10 = from_8.1.1 in
    let from_13 = from_10.1.1.1 in
    let from_17 = from_13.1.1.1.1 in
    let from_20 = from_17.1.1.1 in
    record {
      node_number = one _ from_2.0;
      type_count = one _ from_2.1.0;
      type_names = All-holds_at is_named_type (types d) from_5.0;
      types_differ = AllPairs-differs_at same_type_name (types d) from_5.1.0;
      shares = one _ from_8.0;
      all_nodes = one _ from_8.1.0;
      label_count = one _ from_10.0;
      label_names = All-holds_at is_label (labels d) from_10.1.0;
      labels_differ = AllPairs-differs_at same_label (labels d) from_10.1.1.0;
      constraint_count = one _ from_13.0;
      known_names = All-holds_at (has_known_names d) (constraints d) from_13.1.1.0;
      constraints_differ = AllPairs-differs_at same_names (constraints d) from_13.1.1.1.0;
      out_specs = All-holds_at has_out_spec (constraints d) from_17.0;
      in_specs = All-holds_at has_in_spec (constraints d) from_17.1.0;
      bound_sides = All-holds_at has_bound_side (constraints d) from_17.1.1.0;
      workload = record {
        members = one _ from_20.0;
        numbers = one _ from_20.1.0;
        choices = first_failing-none _ 2 from_20.1.1.0;
        ranges = first_failing-none _ 5 from_20.1.1.1.0;
        cycles = one _ from_20.1.1.1.1.0;
      };
    }

-- ---- counts, amounts and sums

both_true : (a b : Bool) → a && b ≡ true → (a ≡ true) × (b ≡ true)
both_true a b e = grind arith

pub IsCount-has_within : {A : Type 0} (most : ℕ) (xs : List A) → has_within most xs ≡ true → IsCount most (length xs)
IsCount-has_within most xs e =
    let tests = both_true (nat_le 1 (length xs)) (nat_le (length xs) most) e in
    record { some = leb-true 1 (length xs) tests.0; few = leb-true (length xs) most tests.1 }

IsCount-unwrap_or : (most : ℕ) (o : Option ℕ) → is_some o ≡ true → ((n : ℕ) → o ≡ Some n → (1 ≤ n) × (n ≤ most)) → IsCount most (unwrap_or o 0)
IsCount-unwrap_or most None found k = absurd (cc)
IsCount-unwrap_or most (Some n) found k = let limits = k n refl in record { some = limits.0; few = limits.1 }

IsAmount-option_or : (share count : Option ℕ) → ((n : ℕ) → share ≡ Some n → n ≤ thousand) → ((n : ℕ) → count ≡ Some n → n ≤ nodes_most)
    → IsAmount (unwrap_or (option_or (option_map Share share) (option_map Count count)) (Count 0))
IsAmount-option_or (Some n) count k l = k n refl
IsAmount-option_or None (Some n) k l = l n refl
IsAmount-option_or None None k l = omega arith

pub IsAmount-type_amount : (t : Data) → IsAmount (type_amount t)
IsAmount-type_amount t =
    IsAmount-option_or _ _ (λ n e. (number_at-limits (codes "share") 0 thousand t n e).1) (λ n e. (number_at-limits (codes "count") 0 nodes_most t n e).1)

fold-map : {A B : Type 0} (f : ℕ → B → ℕ) (v : A → B) (n : ℕ) (xs : List A) → fold f n (map v xs) ≡ fold (λ m x. f m (v x)) n xs
fold-map f v n [] = refl
fold-map f v n (x ∷ xs) = fold-map f v (f n (v x)) xs

-- a sum over elements, seen as their values
sum-map-map : {A B : Type 0} (f : B → ℕ) (v : A → B) (xs : List A) → sum (map f (map v xs)) ≡ sum_by (λ x. f (v x)) xs
sum-map-map f v xs = sum-map f (map v xs) ∙ fold-map (λ m x. m + f x) v 0 xs

-- all nodes of a type and of the earlier types are within the limit
pub first_node-within : (c : ConfigValue) (t : ℕ) → sum (node_counts c) ≤ nodes_most → t < length c.types → first_node c t + get_or (node_counts c) t 0 ≤ nodes_most
first_node-within c t all within =
    let there : t < length (node_counts c) = rw length-map within in
    omega (arith, sum_by_more_le (λ n. n) (node_counts c) t 0 there)

-- the number of nodes of the earlier types
pub sum_by-earlier : (nodes : ℕ) (ts : List NodeType) (t : ℕ) → sum_by (λ u. node_count nodes u.amount) (take t ts) ≡ sum (take t (map (λ u. node_count nodes u.amount) ts))
sum_by-earlier nodes ts t = rw take-map (sym (sum-map (λ u. node_count nodes u.amount) (take t ts)))

pub earlier-within : (nodes : ℕ) (ts : List NodeType) (t : ℕ) → sum (map (λ u. node_count nodes u.amount) ts) ≤ nodes_most
    → sum_by (λ u. node_count nodes u.amount) (take t ts) ≤ nodes_most
earlier-within nodes ts t all = omega (arith, sum_by-take-le (λ u. node_count nodes u.amount) ts t, sum-map (λ u. node_count nodes u.amount) ts)

-- ---- places of names

found : (b : Bool) (n : ℕ) → is_some (cond b (Some n) None) ≡ true → (b ≡ true) × (unwrap_or (cond b (Some n) None) 0 ≡ n)
found true n is = (refl, refl)
found false n is = absurd (cc)

-- a place that was found is that of an element, which passes the test
pub place-found : {A : Type 0} (test : A → Bool) (xs : List A) (x : A) → is_some (position test xs) ≡ true
    → (unwrap_or (position test xs) 0 < length xs) × (test (get_or xs (unwrap_or (position test xs) 0) x) ≡ true)
place-found test xs x is =
    let n = prefix_len (λ y. not (test y)) xs in
    let here = found (nat_lt n (length xs)) n is in
    let below = ltb-true n (length xs) here.0 in
    (rw here.1 below, rw here.1 (not-false _ (prefix_len_stops (λ y. not (test y)) xs x below)))

-- two names that are found at one place are the same
same_place : {A : Type 0} (name_of : A → List ℕ) (xs : List A) (x : A) (a b : List ℕ)
    → is_some (position (λ y. bytes_eq (name_of y) a) xs) ≡ true → is_some (position (λ y. bytes_eq (name_of y) b) xs) ≡ true
    → unwrap_or (position (λ y. bytes_eq (name_of y) a) xs) 0 ≡ unwrap_or (position (λ y. bytes_eq (name_of y) b) xs) 0 → bytes_eq b a ≡ true
same_place name_of xs x a b found_a found_b e =
    let at_a = (bytes_eq-Decides _ a).0 (place-found (λ y. bytes_eq (name_of y) a) xs x found_a).1 in
    let at_b = (bytes_eq-Decides _ b).0 (place-found (λ y. bytes_eq (name_of y) b) xs x found_b).1 in
    (bytes_eq-Decides b a).1 (sym at_b ∙ ap (λ k. name_of (get_or xs k x)) (sym e) ∙ at_a)

-- ---- constraints

-- three tests that are true together are each true
pub three_true : (a b c : Bool) → a && b && c ≡ true → (a ≡ true) × (b ≡ true) × (c ≡ true)
three_true a b c e = grind arith

-- three tests that are each true are true together
pub all_true : (a b c : Bool) → a ≡ true → b ≡ true → c ≡ true → a && b && c ≡ true
all_true a b c p q r = rw (p, q, r)

known : (d c : Data) → has_known_names d c ≡ true → (is_some (type_place d (source_of c)) ≡ true) × (is_some (label_place d (label_of c)) ≡ true) × (is_some (type_place d (target_of c)) ≡ true)
known d c e = three_true (is_some (type_place d (source_of c))) (is_some (label_place d (label_of c))) (is_some (type_place d (target_of c))) e

not_both : (a b : Bool) → not (a && b) ≡ true → a ≡ true → b ≡ true → ⊥
not_both a b e p q = not-true (a && b) (rw (p, q)) e

IsConstraint-constraint_of : (d c : Data) (types_count labels_count : ℕ) → types_count ≡ length (types d) → labels_count ≡ length (labels d)
    → has_known_names d c ≡ true → has_out_spec c ≡ true → has_in_spec c ≡ true → has_bound_side c ≡ true → IsConstraint types_count labels_count (constraint_of d c)
IsConstraint-constraint_of d c types_count labels_count e f names outs ins bound =
    let places = known d c names in
    record {
      source = rw e (place-found _ (types d) null places.0).0;
      label = rw f (place-found _ (labels d) null places.1).0;
      target = rw e (place-found _ (types d) null places.2).0;
      out_spec = IsDegreeSpec-degree_spec_of (out_of c);
      in_spec = IsDegreeSpec-degree_spec_of (in_of c);
      bound = λ p q. not_both (is_free (out_of c)) (is_free (in_of c)) bound (is_free-Free (out_of c) outs p) (is_free-Free (in_of c) ins q);
    }

-- constraints between the same types with the same label have the same names
same_ends : (d b c : Data) → has_known_names d b ≡ true → has_known_names d c ≡ true → ends (constraint_of d b) ≡ ends (constraint_of d c) → same_names c b ≡ true
same_ends d b c names_b names_c e =
    let places_b = known d b names_b in
    let places_c = known d c names_c in
    all_true _ _ _
    (same_place type_name (types d) null (source_of b) (source_of c) places_b.0 places_c.0 (ap (λ p. p.0) e))
    (same_place text (labels d) null (label_of b) (label_of c) places_b.1 places_c.1 (ap (λ p. p.1.0) e))
    (same_place type_name (types d) null (target_of b) (target_of c) places_b.2 places_c.2 (ap (λ p. p.1.1) e))

-- ---- the whole

same_bytes : (a b : List ℕ) → a ≡ b → bytes_eq b a ≡ true
same_bytes a b e = (bytes_eq-Decides b a).1 (sym e)

pub IsConfig-config_of : (d : Data) → Keeps d → IsConfig (config_of d)
IsConfig-config_of d keeps = record {
  nodes = IsCount-unwrap_or nodes_most (nodes_of d) keeps.node_number (λ n e. number_at-limits (codes "nodes") 1 nodes_most d n e);
  types = rw length-map (IsCount-has_within types_most (types d) keeps.type_count);
  type_names = All-map (λ t. IsName t.name) type_of (types d) keeps.type_names;
  types_differ = rw map-map (AllDiffer-map type_name same_type_name (λ t. Unit {0}) (types d) null (λ s t _ _ e. same_bytes _ _ e) (λ k x h. tt) keeps.types_differ);
  amounts = All-map (λ t. IsAmount t.amount) type_of (types d) (λ k x h. IsAmount-type_amount (get_or (types d) k x));
  shares = rw (sum-map-map (λ t. share t.amount) type_of (types d)) (leb-true _ thousand keeps.shares);
  all_nodes = rw (sum-map-map (λ t. node_count (unwrap_or (nodes_of d) 0) t.amount) type_of (types d)) (leb-true _ nodes_most keeps.all_nodes);
  labels = rw length-map (IsCount-has_within labels_most (labels d) keeps.label_count);
  label_names = All-map IsName text (labels d) keeps.label_names;
  labels_differ = AllDiffer-map text same_label (λ l. Unit {0}) (labels d) null (λ l m _ _ e. same_bytes _ _ e) (λ k x h. tt) keeps.labels_differ;
  constraints = rw length-map (IsCount-has_within constraints_most (constraints d) keeps.constraint_count);
  each_constraint = All-map (IsConstraint _ _) (constraint_of d) (constraints d)
      (λ k x h. IsConstraint-constraint_of d (get_or (constraints d) k x) _ _ (length-map (types d) type_of) (length-map (labels d) text)
      (keeps.known_names k x h) (keeps.out_specs k x h) (keeps.in_specs k x h) (keeps.bound_sides k x h));
  constraints_differ = rw map-map (AllDiffer-map (λ c. ends (constraint_of d c)) same_names (λ c. has_known_names d c ≡ true) (constraints d) null
      (same_ends d) keeps.known_names keeps.constraints_differ);
  workload = IsWorkload-workload_of d keeps.workload;
}

pub IsConfig-first_broken : (d : Data) → first_broken rules d ≡ None → IsConfig (config_of d)
IsConfig-first_broken d none = IsConfig-config_of d (Keeps-first_broken d none)

-- ---- the values that are read

pub All-seen : {A B : Type 0} (P : B → Type 0) (v : A → B) (xs : List A) (ys : List B) → map v xs ≡ ys → All P ys → All (λ x. P (v x)) xs
All-seen P v xs ys e all k x h =
    let within : k < length (map v xs) = rw length-map h in
    rw (← get_or-map v xs k x (v x) h) ((rw (← e) at all) k (v x) within)

pub map-seen : {A B C : Type 0} (f : B → C) (v : A → B) (xs : List A) (ys : List B) (zs : List C) → map v xs ≡ ys → zs ≡ map (λ x. f (v x)) xs → zs ≡ map f ys
map-seen f v xs ys zs e is = rw (← e, map-map) is

-- the configuration, part by part
pub config_of-parts : (d : Data) (nodes : ℕ) (ts : List NodeType) (ls : List (List ℕ)) (cs : List Constraint) (workload : Workload)
    → nodes ≡ unwrap_or (nodes_of d) 0 → ts ≡ map type_of (types d) → ls ≡ map text (labels d) → cs ≡ map (constraint_of d) (constraints d) → workload ≡ workload_of d
    → Path ConfigValue (record { nodes = nodes; types = ts; labels = ls; constraints = cs; workload = workload }) (config_of d)
config_of-parts d nodes ts ls cs workload p q r s t = λ i. record { nodes = p i; types = q i; labels = r i; constraints = s i; workload = t i }

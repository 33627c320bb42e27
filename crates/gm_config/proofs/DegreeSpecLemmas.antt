-- The specification that a value is has its numbers in their limits.
use Rattle.std.proofs.Common.{inl, inr, ◌≡◌, ℕ, ◌+◌, ◌<◌, ◌≤◌, List, [], ◌∷◌, length, sum, Bool, true, false, ◌&&◌, ◌||◌, nat_le, Option, Some, None, is_some, option_map, refl, arith}
use Rattle.std.specs.Prelude.{if◌then◌else◌, option_and_then, unwrap_or, IfSome, codes}
use Rattle.std.proofs.Math.Bool.{and_comm}
use Rattle.std.proofs.lemmas.Bool.{cases_Bool, leb-true, le-leb}
use Rattle.std.proofs.lemmas.List.Sums.{sum_by-cons}
use Rattle.std.specs.List.{list_all, list_any, cons_option}
use Rattle.std.specs.Option.{option_or}
use Rattle.serde_json.specs.Data.{Data}
use Rattle.gm_config.specs.Json.{whole, number, number_at, elements_at}
use Rattle.gm_config.specs.Limits.{degree_most, exponent_most, weight_most, weights_most}
use Rattle.gm_config.specs.DegreeSpec.{is_of_kind, uniform_in, bell_in, zipf_in, zipf_to_max_in, free_in, plain_in, table_in, are_weights, weights_of, degree_spec_in, degree_spec_of, AreWeights, IsDegreeSpec}
use Rattle.gm_config.specs.declared.degree_specs.DegreeSpec.{DegreeSpec}
use Rattle.gm_config.specs.declared.degree_specs.DegreeSpec.TheVariants.{Bell, Table, Free}
use Rattle.gm_config.proofs.ListLemmas.{length-filter_map, All-filter_map}
use Rattle.gm_config.proofs.NumberLemmas.{number-limits, number_at-limits}

-- ---- weights

-- a number within a limit, tested for being positive or not, before others
positive_number : (n most : ℕ) (ns : List ℕ) (others : Bool) → is_some (if nat_le 1 n && nat_le n most then Some n else None) || others ≡ true
    → (others ≡ true → 0 < sum ns) → 0 < sum (cons_option (if nat_le 0 n && nat_le n most then Some n else None) ns)
positive_number n most ns others found more = elim (cases_Bool (nat_le n most)) [
  | inl small ↦ rw (le-leb 0 n (omega arith), small) (rw (sum_by-cons (λ m. m) n ns) (elim (cases_Bool (nat_le 1 n)) [
    | inl positive ↦ let above : 1 ≤ n = leb-true 1 n positive in omega arith
    | inr zero ↦ let rest : 0 < sum ns = more (rw zero at found) in omega arith
  ]))
  | inr large ↦ rw (le-leb 0 n (omega arith), large) (more (rw large at (rw (and_comm (nat_le 1 n) (nat_le n most)) at found)))
]

positive_here : (o : Option ℕ) (ns : List ℕ) (others : Bool)
    → is_some (option_and_then (λ n. if nat_le 1 n && nat_le n weight_most then Some n else None) o) || others ≡ true
    → (others ≡ true → 0 < sum ns) → 0 < sum (cons_option (option_and_then (λ n. if nat_le 0 n && nat_le n weight_most then Some n else None) o) ns)
positive_here None ns others found more = more found
positive_here (Some n) ns others found more = positive_number n weight_most ns others found more

-- where an element is a positive number, the sum of the numbers is positive
sum-weights_of : (ds : List Data) → list_any (λ d. is_some (number 1 weight_most d)) ds ≡ true → 0 < sum (weights_of ds)
sum-weights_of [] found = absurd (cc)
sum-weights_of (d ∷ ds) found = positive_here (whole d) _ _ found (sum-weights_of ds)

four_tests : (a b c d : Bool) → a && b && c && d ≡ true → (a ≡ true) × (b ≡ true) × (c ≡ true) × (d ≡ true)
four_tests a b c d all = grind arith

AreWeights-weights_of : (ds : List Data) → are_weights ds ≡ true → AreWeights (weights_of ds)
AreWeights-weights_of ds are =
    let tests = four_tests (nat_le 1 (length ds)) (nat_le (length ds) weights_most) (list_all (λ d. is_some (number 0 weight_most d)) ds)
    (list_any (λ d. is_some (number 1 weight_most d)) ds) are in
    let whole_length = length-filter_map (number 0 weight_most) ds tests.2 in
    record {
      some = rw whole_length (leb-true 1 (length ds) tests.0);
      few = rw whole_length (leb-true (length ds) weights_most tests.1);
      small = All-filter_map (λ weight. weight ≤ weight_most) (number 0 weight_most) ds (λ d n is. (number-limits 0 weight_most d n is).1);
      positive = sum-weights_of ds tests.3;
    }

-- the specification of a table
pub table_in-is : (b : Bool) (spec : DegreeSpec) → is_some (if b then Some spec else None) ≡ true → (if b then Some spec else None) ≡ Some spec
table_in-is true spec found = refl
table_in-is false spec found = absurd (cc)

-- ---- limits, row by row

record Keeps (o : Option DegreeSpec) : Type 0 where
  limits : IfSome o IsDegreeSpec

keeps_if : (b : Bool) (o : Option DegreeSpec) → Keeps o → Keeps (if b then o else None)
keeps_if true o k = k
keeps_if false o k = record { limits = tt }

keeps_or : (o p : Option DegreeSpec) → Keeps o → Keeps p → Keeps (option_or o p)
keeps_or None p k l = l
keeps_or (Some spec) p k l = k

keeps_some : (o : Option ℕ) (f : ℕ → Option DegreeSpec) → ((n : ℕ) → o ≡ Some n → Keeps (f n)) → Keeps (option_and_then f o)
keeps_some None f k = record { limits = tt }
keeps_some (Some n) f k = k n refl

keeps_last : (o : Option ℕ) (f : ℕ → DegreeSpec) → ((n : ℕ) → o ≡ Some n → IsDegreeSpec (f n)) → Keeps (option_map f o)
keeps_last None f k = record { limits = tt }
keeps_last (Some n) f k = record { limits = k n refl }

-- a specification made of a member, and of the last one
keeps_number : (name : List ℕ) (least most : ℕ) (d : Data) (f : ℕ → Option DegreeSpec) → ((n : ℕ) → least ≤ n → n ≤ most → Keeps (f n))
    → Keeps (option_and_then f (number_at name least most d))
keeps_number name least most d f k = keeps_some _ f (λ n is. let limits = number_at-limits name least most d n is in k n limits.0 limits.1)

keeps_last_number : (name : List ℕ) (least most : ℕ) (d : Data) (f : ℕ → DegreeSpec) → ((n : ℕ) → least ≤ n → n ≤ most → IsDegreeSpec (f n))
    → Keeps (option_map f (number_at name least most d))
keeps_last_number name least most d f k = keeps_last _ f (λ n is. let limits = number_at-limits name least most d n is in k n limits.0 limits.1)

keeps_when : (b : Bool) (spec : DegreeSpec) → (b ≡ true → IsDegreeSpec spec) → Keeps (if b then Some spec else None)
keeps_when true spec k = record { limits = k refl }
keeps_when false spec k = record { limits = tt }

keeps_uniform : (d : Data) → Keeps (uniform_in d)
keeps_uniform d = keeps_if _ _
    (keeps_number (codes "max") 0 degree_most d _ (λ max _ top.
    keeps_last_number (codes "min") 0 max d _ (λ min _ low. (low, top))))

keeps_bell : (d : Data) → Keeps (bell_in d)
keeps_bell d = keeps_if _ _
    (keeps_number (codes "center") 0 degree_most d _ (λ center _ _.
    keeps_number (codes "width") 0 degree_most d _ (λ width _ _.
    keeps_when (nat_le (center + width) degree_most) (Bell center width) (leb-true (center + width) degree_most))))

keeps_zipf : (d : Data) → Keeps (zipf_in d)
keeps_zipf d = keeps_if _ _ (keeps_last_number (codes "exponent") 1 exponent_most d _ (λ exponent low high. (low, high, tt)))

keeps_zipf_to_max : (d : Data) → Keeps (zipf_to_max_in d)
keeps_zipf_to_max d = keeps_if _ _
    (keeps_number (codes "exponent") 1 exponent_most d _ (λ exponent low high.
    keeps_last_number (codes "max") 1 degree_most d _ (λ max some few. (low, high, (some, few)))))

keeps_free : (d : Data) → Keeps (free_in d)
keeps_free d = keeps_when (is_of_kind (codes "free") [] d) Free (λ _. tt)

and_right : (a b : Bool) → a && b ≡ true → b ≡ true
and_right true b both = both
and_right false b both = absurd (cc)

keeps_table : (d : Data) → Keeps (table_in d)
keeps_table d = let weights = elements_at (codes "weights") d in
    let kind = is_of_kind (codes "table") (codes "weights" ∷ []) d in
    keeps_when (kind && are_weights weights) (Table (weights_of weights)) (λ both. AreWeights-weights_of weights (and_right kind (are_weights weights) both))

keeps_default : (o : Option DegreeSpec) → Keeps o → IsDegreeSpec (unwrap_or o Free)
keeps_default None k = tt
keeps_default (Some spec) k = k.limits

-- the specification that a value is has its numbers in their limits
pub IsDegreeSpec-degree_spec_of : (d : Data) → IsDegreeSpec (degree_spec_of d)
IsDegreeSpec-degree_spec_of d = keeps_default (degree_spec_in d)
    (keeps_or (plain_in d) _
    (keeps_or (uniform_in d) _ (keeps_uniform d)
    (keeps_or (bell_in d) _ (keeps_bell d)
    (keeps_or (zipf_in d) _ (keeps_zipf d)
    (keeps_or (zipf_to_max_in d) _ (keeps_zipf_to_max d) (keeps_free d)))))
    (keeps_table d))

-- A workload that the rules let through is in its limits.
use Rattle.std.proofs.Common.{inl, inr, ◌≡◌, ℕ, ◌<◌, ◌≤◌, List, [], ◌∷◌, map, get_or, slice_get, length, Bool, true, false, not, ◌&&◌, ◌||◌, nat_le, Option, Some, None, is_some, option_map, refl, sym, ap, ◌∙◌, lit<, arith}
use Rattle.std.proofs.lemmas.Bool.{cases_Bool, leb-true}
use Rattle.std.proofs.lemmas.Option.{slice_get-map, slice_get-get_or, slice_get_past}
use Rattle.std.proofs.lemmas.List.Elements.{All-nil}
use Rattle.std.proofs.lemmas.List.Kept.{AllPairs-cons}
use Rattle.std.proofs.lemmas.Slice.Eq.{bytes_eq-Decides}
use Rattle.std.specs.Prelude.{◌≢◌, if◌then◌else◌, codes, option_and_then, unwrap_or, Contains, AllPairs}
use Rattle.std.specs.List.{list_all, list_any, filter_map, cons_option, All}
use Rattle.std.specs.Option.{option_map_or}
use Rattle.std.specs.Str.{bytes_eq}
use Rattle.serde_json.specs.Data.{Data, null}
use Rattle.serde_json.specs.Find.{get}
use Rattle.sel_algebra.specs.declared.vocabulary.Shape.{Shape}
use Rattle.sel_algebra.specs.declared.vocabulary.Shape.TheVariants.{Chain, Star, Cycle, StarChain}
use Rattle.sel_algebra.specs.declared.vocabulary.Class.{Class}
use Rattle.sel_algebra.specs.declared.vocabulary.Class.TheVariants.{Constant, Linear, Quadratic}
use Rattle.gm_config.specs.Json.{text, number, number_at, elements, elements_at}
use Rattle.gm_config.specs.Limits.{queries_most, star_most, shapes_most, classes_most}
use Rattle.gm_config.specs.CodeLimits.{seen}
use Rattle.gm_config.specs.declared.limits.RangeLimits.{RangeLimits as CodeLimits}
use Rattle.gm_config.specs.WorkloadRules.{shape_named, class_named, shape_in, class_in, are_different, are_choices, range_within, pair, range_at, has_numbers, has_choices, allows_cycles, has_workload_members, KeepsRules, KeepsWorkloadRules, workload_in, workload_of, AreChoices, IsRange, IsFormat, IsWorkload}
use Rattle.gm_config.specs.declared.workload_rules.Range.{Range}
use Rattle.gm_config.proofs.ListLemmas.{length-filter_map, All-cons_option}
use Rattle.gm_config.proofs.NumberLemmas.{number-limits, number_at-limits}

-- ---- from a whole value to its member

test_there : (test : Data → Bool) (o : Option Data) (workload : Data) → o ≡ Some workload → option_map_or test o false ≡ true → test workload ≡ true
test_there test o workload there holds = rw there at holds

pub KeepsRules-workload : (d workload : Data) → KeepsWorkloadRules d → get (codes "workload") d ≡ Some workload → KeepsRules workload
KeepsRules-workload d workload keeps there = record {
  members = test_there has_workload_members _ workload there keeps.members;
  numbers = test_there has_numbers _ workload there keeps.numbers;
  choices = λ i below. test_there (has_choices i) _ workload there (keeps.choices i below);
  ranges = λ i below. test_there (λ w. is_some (range_at i w)) _ workload there (keeps.ranges i below);
  cycles = test_there allows_cycles _ workload there keeps.cycles;
}

-- ---- numbers and ranges

-- the limits of a range of the table, as they are seen
pub seen-at : (table : List CodeLimits) (i : ℕ) (limits : CodeLimits) → i < length table → limits ≡ get_or table i limits → slice_get (map seen table) i ≡ Some (seen limits)
seen-at table i limits within is =
    let there : slice_get table i ≡ Some limits = slice_get-get_or table i limits within ∙ ap Some (sym is) in
    rw (slice_get-map, there) refl

pub unseen-at : (table : List CodeLimits) (i : ℕ) → length table ≤ i → slice_get (map seen table) i ≡ None
unseen-at table i past = rw (slice_get-map, slice_get_past table i past) refl

most_or_zero : (o : Option ℕ) (most : ℕ) → ((n : ℕ) → o ≡ Some n → n ≤ most) → unwrap_or o 0 ≤ most
most_or_zero None most small = omega arith
most_or_zero (Some n) most small = small n refl

number_at-le : (name : List ℕ) (most : ℕ) (d : Data) → unwrap_or (number_at name 0 most d) 0 ≤ most
number_at-le name most d = most_or_zero (number_at name 0 most d) most (λ n is. (number_at-limits name 0 most d n is).1)

-- ranges that are within limits
abbrev AreWithin : ℕ → ℕ → Option Range → Type 0
AreWithin least most o = (range : Range) → o ≡ Some range → IsRange least most range

range_to : (least most greatest : ℕ) (o : Option ℕ) → greatest ≤ most → ((n : ℕ) → o ≡ Some n → (least ≤ n) × (n ≤ greatest))
    → AreWithin least most (option_map (λ n. let range : Range = record { least = n; most = greatest } in range) o)
range_to least most greatest None small limits range is = absurd (cc)
range_to least most greatest (Some n) small limits range is =
    let made : Path Range (record { least = n; most = greatest }) range = cc in
    rw (← made) record { above = (limits n refl).0; ordered = (limits n refl).1; small = small }

range_from : (least most : ℕ) (first : Data) (o : Option ℕ) → ((n : ℕ) → o ≡ Some n → n ≤ most)
    → AreWithin least most (option_and_then (λ greatest. option_map (λ n. let range : Range = record { least = n; most = greatest } in range) (number least greatest first)) o)
range_from least most first None small range is = absurd (cc)
range_from least most first (Some greatest) small range is =
    range_to least most greatest (number least greatest first) (small greatest refl) (number-limits least greatest first) range is

AreWithin-range_within : (least most : ℕ) (ds : List Data) → AreWithin least most (range_within least most ds)
AreWithin-range_within least most [] range is = absurd (cc)
AreWithin-range_within least most (first ∷ []) range is = absurd (cc)
AreWithin-range_within least most (first ∷ last ∷ []) range is = range_from least most first (number least most last) (λ n e. (number-limits least most last n e).1) range is
AreWithin-range_within least most (first ∷ last ∷ more ∷ ds) range is = absurd (cc)

-- the range that a member may be
IsRange-member : (least most : ℕ) (member : Option Data) → IsRange least most pair
    → is_some (option_map_or (λ d. range_within least most (elements d)) member (Some pair)) ≡ true
    → IsRange least most (unwrap_or (option_map_or (λ d. range_within least most (elements d)) member (Some pair)) pair)
IsRange-member least most None fits there = fits
IsRange-member least most (Some d) fits there = found (range_within least most (elements d)) (AreWithin-range_within least most (elements d)) there
  where
    found : (o : Option Range) → AreWithin least most o → is_some o ≡ true → IsRange least most (unwrap_or o pair)
    found None within some = absurd (cc)
    found (Some range) within some = within range refl

-- ---- names

-- a name is one of a list's first, or one of the others
first_named : {A : Type 0} (name_of : A → List ℕ) (name word : List ℕ) (a : A) (others : Option A) → name_of a ≡ word
    → ((b : A) → others ≡ Some b → name ≡ name_of b) → (b : A) → (if bytes_eq name word then Some a else others) ≡ Some b → name ≡ name_of b
first_named name_of name word a others named rest b is = elim (cases_Bool (bytes_eq name word)) [
  | inl hit ↦ let same : Some a ≡ Some b = rw hit at is in let e : a ≡ b = cc in (bytes_eq-Decides name word).0 hit ∙ sym named ∙ ap name_of e
  | inr miss ↦ rest b (rw miss at is)
]

name_of_shape : Shape → List ℕ
name_of_shape Chain = codes "chain"
name_of_shape Star = codes "star"
name_of_shape Cycle = codes "cycle"
name_of_shape StarChain = codes "starchain"

shape_named-is : (name : List ℕ) (shape : Shape) → shape_named name ≡ Some shape → name ≡ name_of_shape shape
unfolding name_of_shape
shape_named-is name =
    first_named name_of_shape name (codes "chain") Chain _ refl
    (first_named name_of_shape name (codes "star") Star _ refl
    (first_named name_of_shape name (codes "cycle") Cycle _ refl
    (first_named name_of_shape name (codes "starchain") StarChain None refl (λ shape is. absurd (cc)))))

name_of_class : Class → List ℕ
name_of_class Constant = codes "constant"
name_of_class Linear = codes "linear"
name_of_class Quadratic = codes "quadratic"

class_named-is : (name : List ℕ) (class : Class) → class_named name ≡ Some class → name ≡ name_of_class class
unfolding name_of_class
class_named-is name =
    first_named name_of_class name (codes "constant") Constant _ refl
    (first_named name_of_class name (codes "linear") Linear _ refl
    (first_named name_of_class name (codes "quadratic") Quadratic None refl (λ class is. absurd (cc))))

-- ---- choices

module _ {A : Type 0} (choice : Data → Option A) (name_of : A → List ℕ) (named : (d : Data) (a : A) → choice d ≡ Some a → text d ≡ name_of a) where
  either_false : (a b : Bool) → a || b ≡ false → (a ≡ false) × (b ≡ false)
  either_false false b neither = (refl, neither)
  either_false true b neither = absurd (cc)

  -- where no text is a choice's name, no other choice is that one
  others_differ : (a : A) (word : List ℕ) (ds : List Data) → word ≡ name_of a → list_any (λ d. bytes_eq (text d) word) ds ≡ false → All (λ b. a ≢ b) (filter_map choice ds)
  others_differ a word [] is none = All-nil _
  others_differ a word (d ∷ ds) is none =
      let none_here = either_false (bytes_eq (text d) word) (list_any (λ later. bytes_eq (text later) word) ds) none in
      All-cons_option (λ b. a ≢ b) (choice d) _
      (λ b chosen same. let hit = (bytes_eq-Decides (text d) word).1 (named d b chosen ∙ ap name_of (sym same) ∙ sym is) in absurd (cc))
      (others_differ a word ds is none_here.1)

  pairs_cons : (o : Option A) (bs : List A) → ((a : A) → o ≡ Some a → All (λ b. a ≢ b) bs) → AllPairs (λ a b. a ≢ b) bs → AllPairs (λ a b. a ≢ b) (cons_option o bs)
  pairs_cons None bs head tail = tail
  pairs_cons (Some a) bs head tail = AllPairs-cons (λ x y. x ≢ y) a bs (head a refl) tail

  both_true : (a b : Bool) → not a && b ≡ true → (a ≡ false) × (b ≡ true)
  both_true false b both = (refl, both)
  both_true true b both = absurd (cc)

  choices_differ : (ds : List Data) → are_different ds ≡ true → AllPairs (λ a b. a ≢ b) (filter_map choice ds)
  choices_differ [] different = λ i j d lt within. absurd (omega arith)
  choices_differ (d ∷ ds) different =
      let parts = both_true (list_any (λ later. bytes_eq (text later) (text d)) ds) (are_different ds) different in
      pairs_cons (choice d) _ (λ a chosen. others_differ a (text d) ds (named d a chosen) parts.0) (choices_differ ds parts.1)

  four_tests : (a b c d : Bool) → a && b && c && d ≡ true → (a ≡ true) × (b ≡ true) × (c ≡ true) × (d ≡ true)
  four_tests a b c d all = grind arith

  AreChoices-filter_map : (most : ℕ) (ds : List Data) → are_choices choice most ds ≡ true → AreChoices most (filter_map choice ds)
  AreChoices-filter_map most ds are =
      let tests = four_tests (nat_le 1 (length ds)) (nat_le (length ds) most) (list_all (λ d. is_some (choice d)) ds) (are_different ds) are in
      let whole_length = length-filter_map choice ds tests.2 in
      record {
        some = rw whole_length (leb-true 1 (length ds) tests.0);
        few = rw whole_length (leb-true (length ds) most tests.1);
        different = choices_differ ds tests.3;
      }

-- ---- cycles

two_conjuncts : (o : Option Range) → option_map_or (λ range. nat_le 2 range.most) o false ≡ true → 2 ≤ (unwrap_or o pair).most
two_conjuncts None enough = absurd (cc)
two_conjuncts (Some range) enough = leb-true 2 range.most enough

other_true : (a b : Bool) → not a || b ≡ true → a ≡ true → b ≡ true
other_true true b either is = either
other_true false b either is = absurd (cc)

cycles_allowed : (ds : List Data) (o : Option Range) → not (list_any (λ d. bytes_eq (text d) (codes "cycle")) ds) || option_map_or (λ range. nat_le 2 range.most) o false ≡ true
    → Contains (filter_map shape_in ds) Cycle → 2 ≤ (unwrap_or o pair).most
unfolding name_of_shape
cycles_allowed ds o allowed contains = elim (cases_Bool (list_any (λ d. bytes_eq (text d) (codes "cycle")) ds)) [
  | inl hit ↦ two_conjuncts o (other_true (list_any (λ d. bytes_eq (text d) (codes "cycle")) ds) (option_map_or (λ range. nat_le 2 range.most) o false) allowed hit)
  | inr miss ↦ absurd (others_differ shape_in name_of_shape (λ d shape is. shape_named-is (text d) shape is) Cycle (codes "cycle") ds refl miss
      contains.0 Cycle contains.1 (sym contains.2))
]

-- ---- formats

pair_fits : (least most : ℕ) → least ≤ 2 → 2 ≤ most → IsRange least most pair
pair_fits least most low high = record { above = low; ordered = omega arith; small = high }

-- where the member is missing, the format is 1 and the range exactly two
IsFormat-member : (member : Option Data)
    → IsFormat (unwrap_or (option_map_or (λ d. range_within 0 4 (elements d)) member (Some pair)) pair) (if is_some member then 2 else 1)
IsFormat-member None = record { least = omega arith; most = omega arith; pairs = λ _. refl }
IsFormat-member (Some d) = record { least = omega arith; most = omega arith; pairs = λ one. absurd (omega (arith, one)) }

-- ---- the whole

pub IsWorkload-workload_in : (workload : Data) → KeepsRules workload → IsWorkload (workload_in workload)
IsWorkload-workload_in w keeps = record {
  queries = number_at-le (codes "queries") queries_most w;
  star = number_at-le (codes "star") star_most w;
  shapes = AreChoices-filter_map shape_in name_of_shape (λ d shape is. shape_named-is (text d) shape is) shapes_most (elements_at (codes "shapes") w) (keeps.choices 0 (lit< tt));
  classes = AreChoices-filter_map class_in name_of_class (λ d class is. class_named-is (text d) class is) classes_most (elements_at (codes "classes") w) (keeps.choices 1 (lit< tt));
  rules = IsRange-member 1 4 (get (codes "rules") w) (pair_fits 1 4 (omega arith) (omega arith)) (keeps.ranges 0 (lit< tt));
  conjuncts = IsRange-member 1 8 (get (codes "conjuncts") w) (pair_fits 1 8 (omega arith) (omega arith)) (keeps.ranges 1 (lit< tt));
  disjuncts = IsRange-member 1 8 (get (codes "disjuncts") w) (pair_fits 1 8 (omega arith) (omega arith)) (keeps.ranges 2 (lit< tt));
  words = IsRange-member 1 32 (get (codes "length") w) (pair_fits 1 32 (omega arith) (omega arith)) (keeps.ranges 3 (lit< tt));
  arity = IsRange-member 0 4 (get (codes "arity") w) (pair_fits 0 4 (omega arith) (omega arith)) (keeps.ranges 4 (lit< tt));
  format = IsFormat-member (get (codes "arity") w);
  cycles = cycles_allowed (elements_at (codes "shapes") w) (range_at 1 w) keeps.cycles;
}

workload_there : (d : Data) (o : Option Data) → get (codes "workload") d ≡ o → KeepsWorkloadRules d → IsWorkload (workload_in (unwrap_or o null))
workload_there d None there keeps = let e : false ≡ true = rw there at keeps.members in absurd (cc)
workload_there d (Some workload) there keeps = IsWorkload-workload_in workload (KeepsRules-workload d workload keeps there)

-- the workload of a value that keeps the rules is in its limits
pub IsWorkload-workload_of : (d : Data) → KeepsWorkloadRules d → IsWorkload (workload_of d)
IsWorkload-workload_of d keeps = workload_there d (get (codes "workload") d) refl keeps

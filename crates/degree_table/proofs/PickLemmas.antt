-- The degree that a pick falls on.
use Rattle.std.proofs.Common.{inl, inr, ◌≡◌, ℕ, ◌+◌, ◌-◌, ◌<◌, ◌≤◌, List, length, take, sum, get_or, slice_index, ltb, le-ltb, lt-ltb, refl, arith}
use Rattle.std.proofs.lemmas.Bool.{cases_lt}
use Rattle.std.proofs.lemmas.List.{get_or_past}
use Rattle.std.proofs.lemmas.List.Sums.{sum_by_more, sum_by-take-le}
use Rattle.std.specs.List.{position_or_len}
use Rattle.gm_config.specs.Limits.{degree_most}
use Rattle.degree_table.specs.DegreeTable.{WeightedDegrees, weight_in, degree_of, HoldsPick, IsGreatest, IsTable}
use Rattle.degree_table.proofs.SumLemmas.{last-cumulative, sum-take-le, Lies, Lies-position_or_len}

weight_in-from : (table : WeightedDegrees) (d : ℕ) → table.least ≤ d → weight_in table d ≡ slice_index table.weights (d - table.least)
weight_in-from table d le = rw (le-ltb d table.least le) refl

-- a positive weight stands at a place of the list
place_of_positive : (table : WeightedDegrees) (d : ℕ) → 0 < weight_in table d → (table.least ≤ d) × (d < table.least + length table.weights)
place_of_positive table d positive = elim (cases_lt d table.least) [
  | inl below ↦ absurd (omega (arith, rw (lt-ltb d table.least below) at positive))
  | inr from ↦ elim (cases_lt (d - table.least) (length table.weights)) [
    | inl within ↦ (from, omega arith)
    | inr past ↦ absurd (omega (arith, get_or_past table.weights (d - table.least) 0 past, weight_in-from table d from))
  ]
]

pub weight_in-few : (table : WeightedDegrees) (d : ℕ) → table.least + length table.weights ≤ degree_most + 1 → 0 < weight_in table d → d ≤ degree_most
weight_in-few table d few positive = let place = place_of_positive table d positive in omega arith

holds_at : (table : WeightedDegrees) (t p : ℕ) → Lies table.weights t p → HoldsPick table t (table.least + p)
holds_at table t p lies =
    let place : table.least + p - table.least ≡ p = omega arith in
    let more = sum_by_more (λ x. x) table.weights p 0 lies.within in
    record {
      positive = rw (weight_in-from table (table.least + p) (omega arith), place) (omega arith);
      before = rw place lies.before;
      through = rw place lies.through;
    }

-- t lies in the weight of the first degree whose cumulative weight exceeds it
pub HoldsPick-degree_of : (table : WeightedDegrees) (t : ℕ) → t < sum table.weights → HoldsPick table t (degree_of table t)
HoldsPick-degree_of table t less = holds_at table t _ (Lies-position_or_len table.weights t less)

-- past a cumulative weight that is the total each weight is 0
weight_in-above : (table : WeightedDegrees) (d e : ℕ) → table.least ≤ d → sum table.weights ≤ sum (take (d - table.least + 1) table.weights) → d < e
    → weight_in table e ≡ 0
weight_in-above table d e from whole above =
    let weights = table.weights in
    let k = e - table.least in
    rw (weight_in-from table e (omega arith)) (elim (cases_lt k (length weights)) [
      | inl within ↦ omega (arith, sum_by_more (λ x. x) weights k 0 within, sum_by-take-le (λ x. x) weights (k + 1), sum-take-le weights (d - table.least + 1) k (omega arith))
      | inr past ↦ get_or_past weights k 0 past
    ])

pub IsGreatest-degree_of : (table : WeightedDegrees) → 0 < sum table.weights → IsGreatest table (degree_of table (sum table.weights - 1))
IsGreatest-degree_of table positive =
    let d = degree_of table (sum table.weights - 1) in
    let holds = HoldsPick-degree_of table (sum table.weights - 1) (omega arith) in
    let from = (place_of_positive table d holds.positive).0 in
    record { positive = holds.positive; above = λ e above. weight_in-above table d e from (let through = holds.through in omega arith) above }

-- no degree with a positive weight is above the greatest
pub positive-le-greatest : (table : WeightedDegrees) (d greatest : ℕ) → 0 < weight_in table d → IsGreatest table greatest → d ≤ greatest
positive-le-greatest table d greatest positive is = elim (cases_lt greatest d) [
  | inl above ↦ absurd (omega (arith, is.above d above))
  | inr within ↦ within
]

-- the degree at the place of the first cumulative weight that exceeds t
pub degree_at_place : (least : ℕ) (weights sums : List ℕ) (t place : ℕ) → IsTable least weights sums → t < sum weights → place ≡ position_or_len (ltb t) sums
    → HoldsPick (record { least = least; weights = weights }) t (least + place)
degree_at_place least weights sums t place is less first = rw (first, is.added) (HoldsPick-degree_of (record { least = least; weights = weights }) t less)

pub degree_at_place-few : (least : ℕ) (weights sums : List ℕ) (t place : ℕ) → IsTable least weights sums → t < sum weights → place ≡ position_or_len (ltb t) sums
    → least + place ≤ degree_most
degree_at_place-few least weights sums t place is less first =
    weight_in-few (record { least = least; weights = weights }) (least + place) is.few (degree_at_place least weights sums t place is less first).positive

-- the last of the cumulative weights is the total
pub total_at : (least : ℕ) (weights sums : List ℕ) (last d : ℕ) → IsTable least weights sums → last ≡ length sums - 1 → get_or sums last d ≡ sum weights
total_at least weights sums last d is end = rw is.added (last-cumulative weights last d is.positive (rw is.added at end))

-- The degrees that words pick are at most the greatest of their table.
use Rattle.std.proofs.Common.{inl, inr, ◌≡◌, ℕ, zero, suc, ◌+◌, ◌-◌, ◌*◌, ◌^◌, ◌<◌, ◌≤◌, [], ◌∷◌, length, sum, le-ltb, lt-ltb, refl, ap, sym, ◌∙◌, arith}
use Rattle.std.proofs.lemmas.Bool.{cases_lt}
use Rattle.std.proofs.lemmas.List.{get_or_past}
use Rattle.std.proofs.lemmas.List.Sums.{get_or-le-sum_by, sum_by-append, sum_by-cons}
use Rattle.seeded_draw.specs.Draw.{word, stream_of, pick_of}
use Rattle.seeded_draw.proofs.WordLemmas.{word-below}
use Rattle.degree_table.specs.DegreeTable.{WeightedDegrees, weight_in, IsGreatest}
use Rattle.degree_table.proofs.PickLemmas.{HoldsPick-degree_of, positive-le-greatest}
use Rattle.gm_config.specs.Config.{ConfigValue}
use Rattle.edge_match.specs.declared.config_sides.Side.{Side}
use Rattle.edge_match.specs.ConfigSides.{side_count}
use Rattle.edge_match.specs.DrawnDegrees.{degree_tag, degree_by, degrees_by, side_table, table_degrees, table_total}
use Rattle.edge_match.proofs.DrawingLemmas.{degrees_by-none, degrees_by-push}
use Rattle.edge_match.proofs.TotalLemmas.{pick-below}

positive-sum : (table : WeightedDegrees) (d : ℕ) → 0 < weight_in table d → 0 < sum table.weights
positive-sum table d positive = elim (cases_lt d table.least) [
  | inl below ↦ absurd (omega (arith, rw (lt-ltb d table.least below) at positive))
  | inr from ↦ elim (cases_lt (d - table.least) (length table.weights)) [
    | inl within ↦ omega (arith, get_or-le-sum_by (λ x. x) table.weights (d - table.least) 0 within, rw (le-ltb d table.least from) at positive)
    | inr past ↦ absurd (omega (arith, get_or_past table.weights (d - table.least) 0 past, rw (le-ltb d table.least from) at positive))
  ]
]

-- no word picks more than the greatest degree
degree_by-greatest : (table : WeightedDegrees) (greatest w : ℕ) → IsGreatest table greatest → w < 2 ^ 64 → degree_by table w ≤ greatest
degree_by-greatest table greatest w is small =
    let below = pick-below w (sum table.weights) small (positive-sum table greatest is.positive) in
    positive-le-greatest table (degree_by table w) greatest (HoldsPick-degree_of table (pick_of w (sum table.weights)) below).positive is

-- with one word more the sum of the degrees is more by the degree that it picks
pub sum-degrees_by-more : (table : WeightedDegrees) (seed stream n : ℕ)
    → sum (degrees_by table seed stream (n + 1)) ≡ sum (degrees_by table seed stream n) + degree_by table (word seed stream n)
sum-degrees_by-more table seed stream n =
    let before = degrees_by table seed stream n in
    let degree = degree_by table (word seed stream n) in
    let one : sum (degree ∷ []) ≡ degree = sum_by-cons (λ x. x) degree [] ∙ omega arith in
    ap sum (sym (degrees_by-push table seed stream n degree before refl refl))
    ∙ sum_by-append (λ x. x) before (degree ∷ []) ∙ ap (λ k. sum before + k) one

-- so many words pick no more than as many times the greatest degree
pub sum-degrees_by-greatest : (table : WeightedDegrees) (greatest seed stream n : ℕ) → IsGreatest table greatest
    → sum (degrees_by table seed stream n) ≤ greatest * n
sum-degrees_by-greatest table greatest seed stream zero is = rw (degrees_by-none table seed stream) (omega arith)
sum-degrees_by-greatest table greatest seed stream (suc n) is =
    let next : suc n ≡ n + 1 = omega arith in
    let before = sum-degrees_by-greatest table greatest seed stream n is in
    let one = degree_by-greatest table greatest (word seed stream n) is (word-below seed stream n) in
    rw next (omega (arith, before, one, sum-degrees_by-more table seed stream n))

-- the degrees of a side add up to no more than what no words pick from its table
pub table_total-most : (config : ConfigValue) (seed c : ℕ) (side : Side) (table : WeightedDegrees) (count most : ℕ)
    → table ≡ side_table config c side → count ≡ side_count config c side
    → ((seed stream : ℕ) → sum (degrees_by table seed stream count) ≤ most) → table_total config seed c side ≤ most
unfolding table_degrees
table_total-most config seed c side table count most same number each = rw (same, number) at (each seed (stream_of (degree_tag side) c 0))

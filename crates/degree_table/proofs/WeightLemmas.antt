-- The weights of a specification are few and small, and not all are 0.
use Rattle.std.proofs.Common.{zero, suc, inl, inr, ◌≡◌, ◌≢◌, ℕ, ◌+◌, ◌-◌, ◌^◌, ◌<◌, ◌≤◌, List, length, sum, slice_index, Option, Some, None, All, refl, sym, subst, arith}
use Rattle.std.proofs.Math.Nat.{one-le-pow, pow-le-pow_left, pow-le-pow_right, pow-suc, div-le_self}
use Rattle.std.proofs.lemmas.Nat.{le-div}
use Rattle.std.proofs.lemmas.Bool.{cases_lt}
use Rattle.std.proofs.lemmas.List.{get_or_past}
use Rattle.std.proofs.lemmas.List.Elements.{All-get_or, All-map}
use Rattle.std.proofs.lemmas.List.FromFn.{length-map-range_with_len, fill_by_all}
use Rattle.std.proofs.lemmas.List.Sums.{sum_by-le}
use Rattle.std.specs.Int.{abs_diff}
use Rattle.gm_config.specs.Limits.{degree_most, exponent_most, weight_most}
use Rattle.gm_config.specs.DegreeSpec.{IsDegreeSpec}
use Rattle.gm_config.specs.declared.degree_specs.DegreeSpec.{DegreeSpec}
use Rattle.gm_config.specs.declared.degree_specs.DegreeSpec.TheVariants.{Uniform, Bell, Zipf, Table, Free}
use Rattle.degree_table.specs.DegreeTable.{zipf_scale, zipf_most, weight_of, least_of, end_of, weights_of, cumulative, IsTable}
use Rattle.degree_table.proofs.SumLemmas.{sum-positive}

-- ---- powers of a degree

pub pow-degree : (d e : ℕ) → 1 ≤ d → d ≤ degree_most → e ≤ exponent_most → d ^ e ≤ degree_most ^ 3
pow-degree d e some few small =
    let higher : d ^ e ≤ d ^ 3 = pow-le-pow_right {n = d} some {i = e} {j = 3} small in
    let wider : d ^ 3 ≤ degree_most ^ 3 = pow-le-pow_left {n = d} {m = degree_most} few 3 in
    omega arith

pow-one : (e : ℕ) → 1 ^ e ≡ 1
pow-one zero = refl
pow-one (suc e) = rw pow-suc (omega (arith, pow-one e))

-- ---- the degrees

pub zipf_most-few : (given : Option ℕ) (opposite e : ℕ) → IsDegreeSpec (Zipf e given) → (1 ≤ zipf_most given opposite) × (zipf_most given opposite ≤ degree_most)
zipf_most-few None opposite e is = (omega arith, omega arith)
zipf_most-few (Some most) opposite e is = is.2

pub end_of-few : (spec : DegreeSpec) (opposite : ℕ) → IsDegreeSpec spec → (least_of spec ≤ end_of spec opposite) × (end_of spec opposite ≤ degree_most + 1)
end_of-few (Uniform least most) opposite is = (omega arith, omega arith)
end_of-few (Bell center width) opposite is = (omega arith, omega arith)
end_of-few (Zipf exponent given) opposite is = let few = zipf_most-few given opposite exponent is in (omega arith, omega arith)
end_of-few (Table weights) opposite is = (omega arith, is.few)
end_of-few Free opposite is = (omega arith, omega arith)

-- ---- the weights

weight_in_table : (weights : List ℕ) (d : ℕ) → All (λ weight. weight ≤ weight_most) weights → slice_index weights d ≤ weight_most
weight_in_table weights d small = elim (cases_lt d (length weights)) [
  | inl within ↦ All-get_or (λ weight. weight ≤ weight_most) weights d 0 within small
  | inr past ↦ omega (arith, get_or_past weights d 0 past)
]

pub weight_of-small : (spec : DegreeSpec) (d : ℕ) → IsDegreeSpec spec → weight_of spec d ≤ (degree_most + 1) ^ 2
weight_of-small (Uniform least most) d is = omega arith
weight_of-small (Bell center width) d is = pow-le-pow_left {n = width + 1 - abs_diff d center} {m = degree_most + 1} (omega arith) 2
weight_of-small (Zipf exponent given) d is = omega (arith, div-le_self zipf_scale (d ^ exponent))
weight_of-small (Table weights) d is = omega (arith, weight_in_table weights d is.small)
weight_of-small Free d is = omega arith

pub length-weights_of : (spec : DegreeSpec) (opposite : ℕ) → length (weights_of spec opposite) ≡ end_of spec opposite - least_of spec
length-weights_of spec opposite = length-map-range_with_len (weight_of spec) (least_of spec) (end_of spec opposite - least_of spec)

-- the sum of all is at most their number times the greatest that one may be
pub sum-weights_of-small : (spec : DegreeSpec) (opposite : ℕ) → IsDegreeSpec spec → sum (weights_of spec opposite) < 2 ^ 64
sum-weights_of-small spec opposite is =
    let weights = weights_of spec opposite in
    let few = end_of-few spec opposite is in
    let count = length-weights_of spec opposite in
    let each : All (λ w. w ≤ (degree_most + 1) ^ 2) weights = All-map (λ w. w ≤ (degree_most + 1) ^ 2) (weight_of spec) _ (λ k d _. weight_of-small spec _ is) in
    omega (arith, sum_by-le (λ w. w) ((degree_most + 1) ^ 2) weights each)

-- the weights of a table are its own
pub weights_of-table : (weights : List ℕ) (opposite : ℕ) → weights_of (Table weights) opposite ≡ weights
weights_of-table weights opposite = sym (fill_by_all (slice_index weights) weights (length weights - 0) 0 (omega arith) (λ k _. refl))

pub sum-weights_of-positive : (spec : DegreeSpec) (opposite : ℕ) → IsDegreeSpec spec → spec ≢ Free → 0 < sum (weights_of spec opposite)
sum-weights_of-positive (Uniform least most) opposite is drawn = sum-positive (λ _. 1) least (most + 1 - least) 0 (omega arith) (omega arith)
sum-weights_of-positive (Bell center width) opposite is drawn =
    sum-positive (weight_of (Bell center width)) (center - width) (center + width + 1 - (center - width)) 0 (omega arith)
    (one-le-pow 2 (width + 1 - abs_diff (center - width + 0) center) (omega arith))
sum-weights_of-positive (Zipf exponent given) opposite is drawn =
    let few = zipf_most-few given opposite exponent is in
    sum-positive (weight_of (Zipf exponent given)) 1 (zipf_most given opposite + 1 - 1) 0 (omega arith)
    (le-div 1 zipf_scale (1 ^ exponent) (one-le-pow exponent 1 (omega arith)) (omega (arith, pow-one exponent)))
sum-weights_of-positive (Table weights) opposite is drawn = subst (λ xs. 0 < sum xs) (sym (weights_of-table weights opposite)) is.positive
sum-weights_of-positive Free opposite is drawn = absurd (drawn refl)

pub IsTable-weights_of : (spec : DegreeSpec) (opposite : ℕ) → IsDegreeSpec spec → spec ≢ Free → IsTable (least_of spec) (weights_of spec opposite) (cumulative (weights_of spec opposite))
IsTable-weights_of spec opposite is drawn =
    let few = end_of-few spec opposite is in
    record { few = omega (arith, length-weights_of spec opposite); positive = sum-weights_of-positive spec opposite is drawn; added = refl }

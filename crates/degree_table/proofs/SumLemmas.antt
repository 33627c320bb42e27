-- Cumulative sums, and the place of the first that exceeds a number.
use Rattle.std.proofs.Common.{inl, inr, ◌≡◌, ◌∙◌, ℕ, ◌+◌, ◌-◌, ◌<◌, ◌≤◌, List, [], ◌∷◌, length, map, take, sum, get_or, Bool, min, Some, true, false, leb, ltb, leb-true, leb-false, ltb-true, ltb-false, not, zero, suc, lt-ltb, le-ltb, add-one, refl, arith}
use Rattle.std.proofs.lemmas.Bool.{cases_lt}
use Rattle.std.proofs.lemmas.List.{take-take, take_all, length-take, get_or-take}
use Rattle.std.proofs.lemmas.List.Quantifiers.{position-Some}
use Rattle.std.proofs.lemmas.List.FromFn.{length-map-range_with_len, get_or-map-range_with_len}
use Rattle.std.proofs.lemmas.List.Sums.{sum_by-take-le, get_or-le-sum_by, prefix_len-le-length, position_or_len_is, fails_before_first, passes_at_first}
use Rattle.std.specs.List.{range_with_len, position, position_or_len}
use Rattle.std.specs.List.Sorted.{IsNonDecreasing, IsPartitionPoint}
use Rattle.degree_table.specs.DegreeTable.{sum_through, cumulative}

-- ---- sums of weights

-- one positive number makes the sum positive
pub sum-positive : (f : ℕ → ℕ) (a n i : ℕ) → i < n → 0 < f (a + i) → 0 < sum (map f (range_with_len a n))
sum-positive f a n i within positive =
    let numbers = map f (range_with_len a n) in
    let count = length-map-range_with_len f a n in
    omega (arith, get_or-le-sum_by (λ x. x) numbers i 0 (omega arith), get_or-map-range_with_len f a n i (a + i) 0 within refl)

pub sum-take-le : (xs : List ℕ) (i j : ℕ) → i ≤ j → sum (take i xs) ≤ sum (take j xs)
sum-take-le xs i j le = rw (← take-take i j xs le) (sum_by-take-le (λ x. x) (take j xs) i)

pub sum-take-all : (xs : List ℕ) (i : ℕ) → length xs ≤ i → sum (take i xs) ≡ sum xs
sum-take-all xs i le = rw (take_all i xs le) refl

pub get_or-cumulative : (xs : List ℕ) (i d : ℕ) → i < length xs → get_or (cumulative xs) i d ≡ sum (take (i + 1) xs)
get_or-cumulative xs i d within = get_or-map-range_with_len (sum_through xs) 0 (length xs) i i d within (omega arith)

pub length-cumulative : (xs : List ℕ) → length (cumulative xs) ≡ length xs
length-cumulative xs = length-map-range_with_len (sum_through xs) 0 (length xs)

pub IsNonDecreasing-cumulative : (xs : List ℕ) → IsNonDecreasing (cumulative xs)
IsNonDecreasing-cumulative xs i j d le lt =
    let within = rw length-cumulative at lt in
    rw (get_or-cumulative xs i d (omega arith), get_or-cumulative xs j d within) (sum-take-le xs (i + 1) (j + 1) (omega arith))

length-positive : (xs : List ℕ) → 0 < sum xs → 0 < length xs
length-positive [] positive = absurd (omega arith)
length-positive (x ∷ xs) positive = omega arith

-- the last of the cumulative sums is the sum of all
pub last-cumulative : (xs : List ℕ) (last d : ℕ) → 0 < sum xs → last ≡ length (cumulative xs) - 1 → get_or (cumulative xs) last d ≡ sum xs
last-cumulative xs last d positive is =
    let some = length-positive xs positive in
    let count = length-cumulative xs in
    get_or-cumulative xs last d (omega arith) ∙ sum-take-all xs (last + 1) (omega arith)

-- ---- the first sum that exceeds t

pub position_or_len-from_point : (t : ℕ) (xs : List ℕ) (i : ℕ) → i ≤ length xs → IsPartitionPoint (λ y. leb y t ≡ true) (λ y. leb y t ≡ false) xs i
    → position_or_len (ltb t) xs ≡ i
position_or_len-from_point t xs i within point =
    position_or_len_is (ltb t) xs i 0 within (λ k below. le-ltb t _ (leb-true _ t (point.0 k 0 (omega arith) below)))
    (λ inside. lt-ltb t _ (omega (arith, leb-false _ t (point.1 i 0 (omega arith) inside))))

-- the first that passes among the first numbers is the first of all
pub position_or_len-from_first : (p : ℕ → Bool) (count : ℕ) (xs : List ℕ) (i : ℕ) → position p (take count xs) ≡ Some i → position_or_len p xs ≡ i
position_or_len-from_first p count xs i found =
    let at = position-Some p (take count xs) i 0 found in
    let within : i < min count (length xs) = omega (arith, at.0, length-take count xs) in
    position_or_len_is p xs i 0 (omega (arith, within))
    (λ k below. rw (← get_or-take count xs k 0 (omega (arith, below, within))) (at.2 k below))
    (λ inside. rw (← get_or-take count xs i 0 (omega (arith, within))) at.1)

-- where numbers lie one after another from 0, t lies in the one at place p
pub record Lies (xs : List ℕ) (t p : ℕ) : Type 0 where
  pub within : p < length xs
  pub before : sum (take p xs) ≤ t
  pub through : t < sum (take (p + 1) xs)

lies_before : (xs : List ℕ) (t p : ℕ) → p ≤ length xs → ((k : ℕ) → k < p → ltb t (get_or (cumulative xs) k 0) ≡ false) → sum (take p xs) ≤ t
lies_before xs t zero within each = omega arith
lies_before xs t (suc p) within each = rw (← add-one) (omega (arith, ltb-false t _ (each p (omega arith)), get_or-cumulative xs p 0 (omega arith)))

pub Lies-position_or_len : (xs : List ℕ) (t : ℕ) → t < sum xs → Lies xs t (position_or_len (ltb t) (cumulative xs))
Lies-position_or_len xs t less =
    let sums = cumulative xs in
    let p = position_or_len (ltb t) sums in
    let count = length-cumulative xs in
    let few = prefix_len-le-length (λ x. not (ltb t x)) sums in
    let before = lies_before xs t p (omega arith) (λ k below. fails_before_first (ltb t) sums k 0 below) in
    let within : p < length xs = elim (cases_lt p (length xs)) [
      | inl inside ↦ inside
      | inr past ↦ absurd (omega (arith, sum-take-all xs p past))
    ] in
    record {
      within = within;
      before = before;
      through = rw (← get_or-cumulative xs p 0 within) (ltb-true t _ (passes_at_first (ltb t) sums 0 (omega arith)));
    }

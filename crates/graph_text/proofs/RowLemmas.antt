-- Rows of one count that are sorted, and of which each is kept once.
use Rattle.std.proofs.Common.{◌≡◌, ◌≤◌, ◌↔◌, ℕ, zero, suc, Bool, true, ◌==◌, ◌&&◌, nat_eq, nat_le, List, [], ◌∷◌, ◌++◌, length, take, drop, refl, sym, ap, subst, ◌∙◌, arith, Ordering, Less, Equal}
use Rattle.std.specs.List.{Contains, list_all, dedup, AllByRecursion}
use Rattle.std.specs.List.Sorted.{IsPermutation, IsSorted, IsStrictlySortedBy}
use Rattle.std.specs.Ordering.{nat_cmp, ordering_then, eq_by_cmp}
use Rattle.std.specs.Cmp.{IsTotalOrder, IsEquivalence, both_tied, unsigned_ties}
use Rattle.std.specs.Cmp.Lexicographic.{slice_cmp, pointwise, texts_ties, same_text, on_texts_equal}
use Rattle.std.proofs.lemmas.Cmp.{tied_itself, then_total, on_total, nat_cmp_total, nat_list_cmp_total, and_equiv, on_equiv, nat_eq_equiv}
use Rattle.std.proofs.lemmas.Bool.{and_parts, eqb-true}
use Rattle.std.proofs.lemmas.List.Kept.{IsStrictlySortedBy-dedup, Contains-dedup, Contains-from_dedup}
use Rattle.std.proofs.lemmas.List.Sorted.{Contains-permutation, IsPermutation-sym}
use Rattle.graph_text.specs.declared.rows.Row.{Row}
use Rattle.graph_text.specs.Rows.{row_values, is_row, are_rows, values_of, IsRising}
use Rattle.graph_text.proofs.MemberLemmas.{Contains-map, Contains-from_map, list_all-member, list_all-from_members}

-- numbers, with 0 after them up to four places
pub row_of : (xs : List ℕ) → length xs ≤ 4 → is_row (length xs) (record { count = length xs; values = xs ++ drop (length xs) (0 ∷ 0 ∷ 0 ∷ 0 ∷ []) }) ≡ true
row_of [] few = refl
row_of (a ∷ []) few = refl
row_of (a ∷ b ∷ []) few = refl
row_of (a ∷ b ∷ c ∷ []) few = refl
row_of (a ∷ b ∷ c ∷ d ∷ []) few = refl
row_of (a ∷ b ∷ c ∷ d ∷ e ∷ xs) few = absurd (omega (arith, few))

-- ---- rows of one count

one_count : (rows : List Row) → are_rows rows ≡ true → (k : ℕ) × (list_all (is_row k) rows ≡ true)
one_count [] is = (0, refl)
one_count (r ∷ rows) is = (r.count, is)

count-is : (k : ℕ) (r : Row) → is_row k r ≡ true → r.count ≡ k
count-is k r is =
    eqb-true r.count k (and_parts (r.count == k) (nat_le r.count 4) (and_parts _ (length r.values == 4) (and_parts _ (list_all (λ n. n == 0) (drop r.count r.values)) is).0).0).0

are-rows : (k : ℕ) (rows : List Row) → list_all (is_row k) rows ≡ true → are_rows rows ≡ true
are-rows k [] all = refl
are-rows k (r ∷ rows) all =
    subst (λ n. list_all (is_row n) (r ∷ rows) ≡ true) (sym (count-is k r (and_parts (is_row k r) (list_all (is_row k) rows) all).0)) all

-- ---- rows of one count are compared by their numbers

zeros : (xs ys : List ℕ) → length xs ≡ length ys → list_all (λ n. n == 0) xs ≡ true → list_all (λ n. n == 0) ys ≡ true → slice_cmp nat_cmp xs ys ≡ Equal
zeros [] [] long x_zeros y_zeros = refl
zeros [] (y ∷ ys) long x_zeros y_zeros = absurd (omega (arith, long))
zeros (x ∷ xs) [] long x_zeros y_zeros = absurd (omega (arith, long))
zeros (x ∷ xs) (y ∷ ys) long x_zeros y_zeros =
    let p = and_parts (x == 0) (list_all (λ n. n == 0) xs) x_zeros in
    let q = and_parts (y == 0) (list_all (λ n. n == 0) ys) y_zeros in
    (λ i. ordering_then (nat_cmp (eqb-true x 0 p.0 i) (eqb-true y 0 q.0 i)) (slice_cmp nat_cmp xs ys)) ∙ zeros xs ys (omega (arith, long)) p.1 q.1

fronts : (k : ℕ) (xs ys : List ℕ) → length xs ≡ length ys → list_all (λ n. n == 0) (drop k xs) ≡ true → list_all (λ n. n == 0) (drop k ys) ≡ true
    → slice_cmp nat_cmp (take k xs) (take k ys) ≡ slice_cmp nat_cmp xs ys
fronts zero xs ys long x_zeros y_zeros = sym (zeros xs ys long x_zeros y_zeros)
fronts (suc k) [] [] long x_zeros y_zeros = refl
fronts (suc k) [] (y ∷ ys) long x_zeros y_zeros = absurd (omega (arith, long))
fronts (suc k) (x ∷ xs) [] long x_zeros y_zeros = absurd (omega (arith, long))
fronts (suc k) (x ∷ xs) (y ∷ ys) long x_zeros y_zeros = ap (ordering_then (nat_cmp x y)) (fronts k xs ys (omega (arith, long)) x_zeros y_zeros)

-- the order of rows: by their counts, and then by their places
abbrev pub row_cmp : Row → Row → Ordering
row_cmp x y = ordering_then (nat_cmp x.count y.count) (slice_cmp nat_cmp x.values y.values)

less : (k : ℕ) (x y : Row) → is_row k x ≡ true → is_row k y ≡ true → row_cmp x y ≡ Less → slice_cmp nat_cmp (row_values x) (row_values y) ≡ Less
less k x y x_is y_is before =
    let xp = and_parts _ (list_all (λ n. n == 0) (drop x.count x.values)) x_is in
    let yp = and_parts _ (list_all (λ n. n == 0) (drop y.count y.values)) y_is in
    let x_long = eqb-true (length x.values) 4 (and_parts _ (length x.values == 4) xp.0).1 in
    let y_long = eqb-true (length y.values) 4 (and_parts _ (length y.values == 4) yp.0).1 in
    let same : y.count ≡ x.count = count-is k y y_is ∙ sym (count-is k x x_is) in
    (λ i. slice_cmp nat_cmp (row_values x) (take (same i) y.values))
    ∙ (fronts x.count x.values y.values (x_long ∙ sym y_long) xp.1 (subst (λ n. list_all (λ m. m == 0) (drop n y.values) ≡ true) same yp.1)
    ∙ (sym (ap (λ o. ordering_then o (slice_cmp nat_cmp x.values y.values)) (ap (nat_cmp x.count) same ∙ tied_itself nat_cmp_total x.count)) ∙ before))

less-all : (k : ℕ) (x : Row) (rows : List Row) → is_row k x ≡ true → list_all (is_row k) rows ≡ true → AllByRecursion (λ y. row_cmp x y ≡ Less) rows
    → AllByRecursion (λ v. slice_cmp nat_cmp (row_values x) v ≡ Less) (values_of rows)
less-all k x [] x_is all before = tt
less-all k x (y ∷ rows) x_is all before =
    let parts = and_parts (is_row k y) (list_all (is_row k) rows) all in
    (less k x y x_is parts.0 before.0, less-all k x rows x_is parts.1 before.1)

values_rise : (k : ℕ) (rows : List Row) → list_all (is_row k) rows ≡ true → IsStrictlySortedBy row_cmp rows → IsRising (values_of rows)
unfolding IsStrictlySortedBy
values_rise k [] all rises = tt
values_rise k (x ∷ rows) all rises =
    let parts = and_parts (is_row k x) (list_all (is_row k) rows) all in
    (less-all k x rows parts.0 parts.1 rises.0, values_rise k rows parts.1 rises.1)

-- ---- the order of rows, and when two are the same

abbrev pub row_eq : Row → Row → Bool
row_eq x y = nat_eq x.count y.count && pointwise nat_eq x.values y.values

row_total : IsTotalOrder row_cmp
row_total = then_total (on_total (λ r. r.count) nat_cmp_total) (on_total (λ r. r.values) nat_list_cmp_total)

row_laws : IsEquivalence row_eq
row_laws = and_equiv (on_equiv (λ r. r.count) nat_eq_equiv) (on_texts_equal (λ r. r.values))

row_ties : (x y : Row) → row_eq x y ≡ eq_by_cmp row_cmp x y
row_ties x y = both_tied _ _ (nat_cmp x.count y.count) (slice_cmp nat_cmp x.values y.values) (unsigned_ties x.count y.count) (texts_ties x.values y.values)

row_exact : (x y : Row) → row_eq x y ≡ true → x ≡ y
row_exact x y same =
    let parts = and_parts (nat_eq x.count y.count) (pointwise nat_eq x.values y.values) same in
    let counts : x.count ≡ y.count = eqb-true x.count y.count parts.0 in
    let values : x.values ≡ y.values = same_text x.values y.values (sym parts.1) in
    λ i. record { count = counts i; values = values i }

-- ---- sorted rows, each of them once

module _ (items sorted : List Row) (is : are_rows items ≡ true) (moved : IsPermutation items sorted) (up : IsSorted row_cmp sorted) where
  kept : (k : ℕ) → list_all (is_row k) items ≡ true → list_all (is_row k) (dedup row_eq sorted) ≡ true
  kept k all =
      list_all-from_members (is_row k) (dedup row_eq sorted)
      (λ r has. list_all-member (is_row k) items all r (Contains-permutation sorted items r (IsPermutation-sym items sorted moved) (Contains-from_dedup row_eq sorted r has)))

  pub sorted_are_rows : are_rows (dedup row_eq sorted) ≡ true
  sorted_are_rows = let one = one_count items is in are-rows one.0 (dedup row_eq sorted) (kept one.0 one.1)

  pub sorted_rise : IsRising (values_of (dedup row_eq sorted))
  sorted_rise =
      let one = one_count items is in
      values_rise one.0 (dedup row_eq sorted) (kept one.0 one.1) (IsStrictlySortedBy-dedup row_total row_ties sorted up)

  pub sorted_have : (row : List ℕ) → Contains (values_of (dedup row_eq sorted)) row ↔ Contains (values_of items) row
  sorted_have row = (
    λ has. let found = Contains-from_map row_values (dedup row_eq sorted) row has in
        subst (λ v. Contains (values_of items) v) found.2
        (Contains-map row_values items found.0 (Contains-permutation sorted items found.0 (IsPermutation-sym items sorted moved) (Contains-from_dedup row_eq sorted found.0 found.1))),
    λ has. let found = Contains-from_map row_values items row has in
        subst (λ v. Contains (values_of (dedup row_eq sorted)) v) found.2
        (Contains-map row_values (dedup row_eq sorted) found.0 (Contains-dedup row_laws row_exact sorted found.0 (Contains-permutation items sorted found.0 moved found.1))),
  )

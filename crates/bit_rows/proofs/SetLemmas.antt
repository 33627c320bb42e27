-- The numbers of a set, one after another.
use Rattle.std.proofs.Common.{◌≡◌, ◌↔◌, ℕ, zero, suc, ◌+◌, ◌-◌, ◌<◌, ◌≤◌, ◌==◌, Bool, true, false, ◌&&◌, ◌||◌, inl, inr, get_or, List, length, slice_set, [], ◌∷◌, filter, refl, ap, sym, subst, ◌∙◌, add-one, arith}
use Rattle.std.specs.List.{range_with_len, list_any, All}
use Rattle.std.specs.Ordering.{nat_cmp}
use Rattle.std.specs.Cmp.{nat_cmp_total, unsigned_tied, nat_eq_equiv}
use Rattle.std.specs.FinSet as set
use Rattle.std.specs.FinSet.{contains-empty, contains-insert, contains-union}
use Rattle.std.proofs.lemmas.Bool.{cases_Bool, and_parts, and_from}
use Rattle.std.proofs.lemmas.List.Folds.{Any-from_list_any, list_any-from_Any, list_any_at}
use Rattle.std.proofs.lemmas.List.FromFn.{length-range_with_len, get_or-range_with_len}
use Rattle.std.proofs.lemmas.List.Elements.{All-get_or, filter_passes}
use Rattle.std.proofs.Math.Bool.{or_comm, or_assoc, or-false}
use Rattle.std.proofs.lemmas.List.{get_or-set_same, get_or-set_other}
use Rattle.bit_rows.specs.Sets.{NumberSet, has, set_at, HasNone, IsLeastFrom, numbers_from}

-- where no number from n on is in a set, none is left
filter_none : (s : NumberSet) (n c : ℕ) → ((k : ℕ) → n ≤ k → k < n + c → has s k ≡ false) → filter (has s) (range_with_len n c) ≡ []
filter_none s n zero none = refl
filter_none s n (suc c) none = rw (none n (omega arith) (omega arith)) (filter_none s (n + 1) c (λ k from below. none k (omega (arith, from)) (omega (arith, below))))

pub numbers_none : (s : NumberSet) (n m : ℕ) → ((k : ℕ) → HasNone s n k) → numbers_from s n m ≡ []
unfolding numbers_from
numbers_none s n m none = filter_none s n (m - n) (λ k from below. none (suc k) k from (omega arith))

-- the first number d places on is followed by the numbers above it
filter_first : (s : NumberSet) (d n c : ℕ) → d < c → has s (n + d) ≡ true → HasNone s n (n + d) → filter (has s) (range_with_len n c) ≡ (n + d) ∷ filter (has s) (range_with_len (n + d + 1) (c - (d + 1)))
filter_first s d n zero less here none = absurd (omega (arith, less))
filter_first s zero n (suc c) less here none =
    let same : n + 0 ≡ n = omega arith in
    let left : suc c - (0 + 1) ≡ c = omega arith in
    rw (same, left, subst (λ x. has s x ≡ true) same here) refl
filter_first s (suc d) n (suc c) less here none =
    let same : n + 1 + d ≡ n + suc d = omega arith in
    let left : suc c - (suc d + 1) ≡ c - (d + 1) = omega arith in
    rw (none n (omega arith) (omega arith), left, ← same)
    (filter_first s d (n + 1) c (omega (arith, less)) (subst (λ x. has s x ≡ true) (omega arith) here) (λ k from below. none k (omega (arith, from)) (omega (arith, below))))

-- the least number from n on comes first, and the numbers above it follow
pub numbers_first : (s : NumberSet) (n p m : ℕ) → p < m → IsLeastFrom s n p → numbers_from s n m ≡ p ∷ numbers_from s (p + 1) m
unfolding numbers_from
numbers_first s n p m within least =
    let same : n + (p - n) ≡ p = omega (arith, least.from) in
    let left : m - n - (p - n + 1) ≡ m - (p + 1) = omega (arith, within, least.from) in
    rw (same, left) at
    (filter_first s (p - n) n (m - n) (omega (arith, within, least.from)) (subst (λ x. has s x ≡ true) (omega (arith, least.from)) least.here) (λ k from below. least.before k from (omega (arith, below, least.from))))

-- ---- what the sets that rows become contain

pub has-empty : (n : ℕ) → has set.empty n ≡ false
has-empty n = contains-empty nat_cmp n

pub has-insert : (s : NumberSet) (k n : ℕ) → has (set.insert s k) n ≡ (has s n || (k == n))
has-insert s k n = contains-insert nat_cmp_total s k n ∙ (ap (λ b. b || has s n) (unsigned_tied n k ∙ nat_eq_equiv.symm n k) ∙ or_comm (k == n) (has s n))

pub has-union : (s t : NumberSet) (n : ℕ) → has (set.union s t) n ≡ (has s n || has t n)
has-union s t n = contains-union nat_cmp_total s t n

-- ---- what the rows of a list become where one is put into it

pub set_at-same : (rows : List NumberSet) (r : ℕ) (s : NumberSet) → r < length rows → set_at (slice_set rows r s) r ≡ s
set_at-same rows r s within = get_or-set_same rows r s set.empty within

pub set_at-other : (rows : List NumberSet) (r j : ℕ) (s : NumberSet) → (j ≡ r → ⊥) → set_at (slice_set rows r s) j ≡ set_at rows j
set_at-other rows r j s apart = get_or-set_other rows r j s set.empty apart

-- ---- tests on the numbers of a set

-- what a test finds among the elements that pass another one
any-filter : (p test : ℕ → Bool) (xs : List ℕ) → list_any test (filter p xs) ≡ list_any (λ x. p x && test x) xs
any-filter p test [] = refl
any-filter p test (x ∷ xs) = elim (cases_Bool (p x)) [
  | inl hit ↦ rw hit (ap (λ b. test x || b) (any-filter p test xs))
  | inr miss ↦ rw miss (any-filter p test xs)
]

-- a test finds one of the numbers from 0 just where some number passes it
pub any-range : (test : ℕ → Bool) (m : ℕ) → (list_any test (range_with_len 0 m) ≡ true) ↔ ((n : ℕ) × (n < m) × (test n ≡ true))
any-range test m = (
  λ any. let (i, n, inside, here, passed) = Any-from_list_any test (range_with_len 0 m) any in
      let below : i < m = rw (length-range_with_len 0 m) at inside in
      let same : i ≡ n = omega (arith, sym (get_or-range_with_len 0 m i n below) ∙ here) in
      (n, rw same at below, passed),
  λ (n, below, passed).
      let at : get_or (range_with_len 0 m) n 0 ≡ n = get_or-range_with_len 0 m n 0 below ∙ omega arith in
      list_any_at test (range_with_len 0 m) n 0 (rw (length-range_with_len 0 m) below) (ap test at ∙ passed),
)

-- what a test finds among one number more
pub any-range-more : (test : ℕ → Bool) (a n : ℕ) → list_any test (range_with_len a (n + 1)) ≡ (list_any test (range_with_len a n) || test (a + n))
any-range-more test a n = rw add-one (more a n)
  where
    more : (a n : ℕ) → list_any test (range_with_len a (suc n)) ≡ (list_any test (range_with_len a n) || test (a + n))
    more a zero = let here : a + 0 ≡ a = omega arith in rw here (or-false (test a))
    more a (suc n) = let there : a + 1 + n ≡ a + suc n = omega arith in ap (λ b. test a || b) (more (a + 1) n) ∙ (sym (or_assoc (test a) (list_any test (range_with_len (a + 1) n)) (test (a + 1 + n))) ∙ ap (λ k. (test a || list_any test (range_with_len (a + 1) n)) || test k) there)

-- the numbers of a set below m are those of the first m numbers that are in it
pub numbers-all : (s : NumberSet) (m : ℕ) → numbers_from s 0 m ≡ filter (has s) (range_with_len 0 m)
unfolding numbers_from
numbers-all s m = let whole : m - 0 ≡ m = omega arith in ap (λ k. filter (has s) (range_with_len 0 k)) whole

-- a test finds one of the numbers of a set just where some number of the set passes it
pub some_number : (s : NumberSet) (m : ℕ) (test : ℕ → Bool)
    → (list_any test (numbers_from s 0 m) ≡ true) ↔ ((n : ℕ) × (n < m) × (has s n ≡ true) × (test n ≡ true))
some_number s m test = (
  λ any. let (n, below, both) = (any-range (λ x. has s x && test x) m).0 (sym (ap (list_any test) (numbers-all s m) ∙ any-filter (has s) test (range_with_len 0 m)) ∙ any) in
      let (here, passed) = and_parts (has s n) (test n) both in
      (n, below, here, passed),
  λ (n, below, here, passed). (ap (list_any test) (numbers-all s m) ∙ any-filter (has s) test (range_with_len 0 m))
      ∙ (any-range (λ x. has s x && test x) m).1 (n, below, and_from (has s n) (test n) here passed),
)

-- each of the numbers of a set is in the set
pub numbers_in : (s : NumberSet) (n m : ℕ) → All (λ x. has s x ≡ true) (numbers_from s n m)
unfolding numbers_from
numbers_in s n m = filter_passes (has s) (range_with_len n (m - n))

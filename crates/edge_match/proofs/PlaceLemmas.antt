-- Sums over numbers in a row, and over different ones of them.
use Rattle.std.proofs.Common.{◌≡◌, ℕ, zero, suc, ◌+◌, ◌<◌, ◌≤◌, Bool, true, false, cond, ◌==◌, List, [], ◌∷◌, length, get_or, count_by, inl, inr, refl, ap, sym, ◌∙◌, arith}
use Rattle.std.specs.List.{range_with_len, sum_by}
use Rattle.std.proofs.lemmas.Bool.{cases_eq}
use Rattle.std.proofs.lemmas.List.Sums.{sum_by-cons, sum_by_push}
use Rattle.edge_match.proofs.FreeSideLemmas.{range_with_len-more, test-same, test-other}

-- two functions that agree on numbers in a row have one sum
pub sum_by-agree : (f g : ℕ → ℕ) (a n : ℕ) → ((i : ℕ) → a ≤ i → i < a + n → f i ≡ g i)
    → sum_by f (range_with_len a n) ≡ sum_by g (range_with_len a n)
sum_by-agree f g a zero same = refl
sum_by-agree f g a (suc n) same =
    sum_by-cons f a (range_with_len (a + 1) n)
    ∙ omega (arith, same a (omega arith) (omega arith), sum_by-agree f g (a + 1) n (λ i low high. same i (omega arith) (omega arith)))
    ∙ sym (sum_by-cons g a (range_with_len (a + 1) n))

-- a sum over a list is one over its places
pub sum_by-places : {X : Type 0} (f : X → ℕ) (xs : List X) (d : X) (a : ℕ) (g : ℕ → ℕ)
    → ((i : ℕ) → i < length xs → g (a + i) ≡ f (get_or xs i d)) → sum_by f xs ≡ sum_by g (range_with_len a (length xs))
sum_by-places f [] d a g same = refl
sum_by-places f (x ∷ xs) d a g same =
    let first : g a ≡ f x = ap g (omega arith) ∙ same 0 (omega arith) in
    let rest = sum_by-places f xs d (a + 1) g (λ i lt. let next : a + 1 + i ≡ a + suc i = omega arith in ap g next ∙ same (suc i) (omega arith)) in
    sum_by-cons f x xs ∙ omega (arith, first, rest) ∙ sym (sum_by-cons g a (range_with_len (a + 1) (length xs)))

-- a function that is nothing at one number
abbrev without : ℕ → (ℕ → ℕ) → ℕ → ℕ
without m f i = cond (i == m) 0 (f i)

without-other : (m : ℕ) (f : ℕ → ℕ) (i : ℕ) → (i ≡ m → ⊥) → without m f i ≡ f i
without-other m f i differ = ap (λ b. cond b 0 (f i)) (test-other i m differ)

without-same : (m : ℕ) (f : ℕ → ℕ) → without m f m ≡ 0
without-same m f = ap (λ b. cond b 0 (f m)) (test-same m m refl)

-- one number's part of a sum
sum_by-without : (m : ℕ) (f : ℕ → ℕ) (a n : ℕ) → a ≤ m → m < a + n
    → sum_by (without m f) (range_with_len a n) + f m ≡ sum_by f (range_with_len a n)
sum_by-without m f a zero low high = absurd (omega arith)
sum_by-without m f a (suc n) low high =
    let rest = range_with_len (a + 1) n in
    elim (cases_eq a m) [
      | inl same ↦
          let agree = sum_by-agree (without m f) f (a + 1) n (λ i above _. without-other m f i (λ e. omega arith)) in
          omega (arith, sum_by-cons (without m f) a rest, sum_by-cons f a rest, agree, ap f same, ap (without m f) same, without-same m f)
      | inr differ ↦
          omega (arith, sum_by-cons (without m f) a rest, sum_by-cons f a rest, without-other m f a differ, sum_by-without m f (a + 1) n (omega arith) (omega arith))
    ]

-- numbers in a row, each with a place of its own below n that tells it, have together at most what all places have
pub sum_by-different : (f g number : ℕ → ℕ) (count n : ℕ)
    → ((r : ℕ) → r < count → (p : ℕ) × (p < n) × (number p ≡ r) × (g r ≡ f p))
    → sum_by g (range_with_len 0 count) ≤ sum_by f (range_with_len 0 n)
sum_by-different f g number zero n each = omega arith
sum_by-different f g number (suc count) n each =
    let last = each count (omega arith) in
    let p = last.0 in
    let others = sum_by-different (without p f) g number count n
    (λ r lt. let own = each r (omega arith) in
    (own.0, own.1, own.2, own.3 ∙ sym (without-other p f own.0 (λ e. let same : r ≡ count = sym own.2 ∙ ap number e ∙ last.2 in omega arith)))) in
    let here : 0 + count ≡ count = omega arith in
    let more = ap (sum_by g) (range_with_len-more 0 count) ∙ sum_by_push g (range_with_len 0 count) (0 + count) in
    omega (arith, more, ap g here, last.3, others, sum_by-without p f 0 n (omega arith) (omega (arith, last.1)))

-- where a function is nothing, so is its sum
pub sum_by-nothing : (f : ℕ → ℕ) (a n : ℕ) → ((i : ℕ) → a ≤ i → i < a + n → f i ≡ 0) → sum_by f (range_with_len a n) ≡ 0
sum_by-nothing f a zero nothing = refl
sum_by-nothing f a (suc n) nothing =
    sum_by-cons f a (range_with_len (a + 1) n)
    ∙ omega (arith, nothing a (omega arith) (omega arith), sum_by-nothing f (a + 1) n (λ i low high. nothing i (omega arith) (omega arith)))

-- the sum of a function that is the sum of two
pub sum_by-plus : (f g h : ℕ → ℕ) (a n : ℕ) → ((i : ℕ) → h i ≡ f i + g i)
    → sum_by h (range_with_len a n) ≡ sum_by f (range_with_len a n) + sum_by g (range_with_len a n)
sum_by-plus f g h a zero both = refl
sum_by-plus f g h a (suc n) both =
    let rest = range_with_len (a + 1) n in
    omega (arith, sum_by-cons h a rest, sum_by-cons f a rest, sum_by-cons g a rest, both a, sum_by-plus f g h (a + 1) n both)

fails : (b : Bool) → (b ≡ true → ⊥) → ◌≡◌ {A = ℕ} (cond b 1 0) 0
fails true not_true = absurd (not_true refl)
fails false not_true = refl

nothing : (test : ℕ → Bool) (m i : ℕ) → (test i ≡ true → i ≡ m) → without m (λ j. cond (test j) 1 0) i ≡ 0
nothing test m i alone =
    elim (cases_eq i m) [
      | inl same ↦ ap (λ b. cond b 0 (cond (test i) 1 0)) (test-same i m same)
      | inr differ ↦ without-other m (λ j. cond (test j) 1 0) i differ ∙ fails (test i) (λ passes. differ (alone passes))
    ]

-- a test that one number passes alone is passed once
pub count_by-one : (test : ℕ → Bool) (n m : ℕ) → m < n → test m ≡ true
    → ((i : ℕ) → i < n → test i ≡ true → i ≡ m) → count_by test (range_with_len 0 n) ≡ 1
count_by-one test n m lt passes alone =
    let f : ℕ → ℕ = λ i. cond (test i) 1 0 in
    let none = sum_by-nothing (without m f) 0 n (λ i _ lt'. nothing test m i (alone i (omega arith))) in
    omega (arith, sum_by-without m f 0 n (omega arith) (omega arith), none, ap {B = ℕ} (λ b. cond b 1 0) passes)

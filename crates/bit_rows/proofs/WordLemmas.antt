-- Bits of words, and the sets that they are.
use Rattle.std.proofs.Common.{◌≡◌, ◌≢◌, ◌↔◌, ℕ, zero, suc, ◌+◌, ◌-◌, ◌*◌, ◌/◌, ◌%◌, ◌<◌, ◌≤◌, ◌==◌, ◌^◌, nat_eq, Bool, true, false, ◌&&◌, ◌||◌, Option, Some, None, List, length, filter, get_or, slice_set, replicate, rules, inl, inr, refl, sym, ap, subst, ◌∙◌, arith, min, max}
use Rattle.std.specs.Int.{bit_at, w32, trailing_zeros}
use Rattle.std.specs.Int.RustNames.{bit_and, bit_or}
use Rattle.std.specs.Ordering.{nat_cmp}
use Rattle.std.specs.Cmp.{nat_cmp_total, unsigned_tied}
use Rattle.std.specs.Option.{IfSome}
use Rattle.std.specs.List.{range_with_len, list_any}
use Rattle.std.specs.FinSet as set
use Rattle.std.specs.FinSet.{contains-from_list_nat, contains-empty, contains-insert, contains-union, nat_cmp-IsAntisymmetric}
use Rattle.std.proofs.lemmas.Bool.{eqb-true, eq-eqb, ne_eqb, cases_lt, cases_eq, true≢false, and_from}
use Rattle.std.proofs.lemmas.Nat.{and_le_l, shr-shr}
use Rattle.std.proofs.lemmas.Nat.Bits.{shr_and_one, bit_at-zero, bit_at-lt, bit_at_above, bit_at-trailing_zeros, bit_at_set_same, bit_at_set_other, bit_at_or, bit_at_and}
use Rattle.std.proofs.lemmas.Map.Views.{any-filter_same}
use Rattle.std.proofs.lemmas.List.{get_or_past, get_or-set_same, get_or-set_other, get_or-replicate, length-replicate}
use Rattle.std.proofs.lemmas.List.Folds.{list_any_at}
use Rattle.std.proofs.lemmas.List.FromFn.{length-range_with_len, get_or-range_with_len}
use Rattle.bit_rows.specs.Sets.{NumberSet, has, Meet, IsNext}
use Rattle.bit_rows.specs.Words.{has_bit, set_of, MeetBits, NoBits, IsLowestPlace, IsLowestBit, IsNextBit}

-- the bit that a shifted word shows
pub shifted_bit : (n i : ℕ) → bit_and (n / 2 ^ i) 1 ≡ bit_at n i
shifted_bit n i = shr_and_one n i

-- no bit past the words is set
pub no_bit_past : (words : List ℕ) (n : ℕ) → 32 * length words ≤ n → has_bit words n ≡ false
no_bit_past words n past = rw (get_or_past words (n / 32) 0 (omega (arith, past)), bit_at-zero (n % 32)) refl

-- a bit that is set lies within the words
pub bit_within : (words : List ℕ) (n : ℕ) → has_bit words n ≡ true → n < 32 * length words
bit_within words n is = elim (cases_lt n (32 * length words)) [
  | inl within ↦ within
  | inr past ↦ absurd (true≢false (sym is ∙ no_bit_past words n past))
]

-- where a test is false outside of a list, it is what it was on the list
and_found : (b c : Bool) → (b ≡ true → c ≡ true) → (b && c) ≡ b
and_found true c found = found refl
and_found false c found = refl

-- the set of words has a number just where its bit is set
pub has-set_of : (words : List ℕ) (n : ℕ) → has (set_of words) n ≡ has_bit words n
unfolding set_of
has-set_of words n =
    let all = range_with_len 0 (32 * length words) in
    contains-from_list_nat (filter (has_bit words) all) n
    ∙ (any-filter_same (λ k. nat_eq k n) (has_bit words) (has_bit words n) (λ k same. ap (has_bit words) (eqb-true k n same)) all
    ∙ and_found (has_bit words n) (list_any (λ k. nat_eq k n) all) (λ is.
    let within : n < 32 * length words = bit_within words n is in
    list_any_at (λ k. nat_eq k n) all n 0 (rw (length-range_with_len 0 (32 * length words)) within)
    (eq-eqb _ n (get_or-range_with_len 0 (32 * length words) n 0 within ∙ omega arith))))

-- words with the bits of a set are that set
pub same_bits : (words : List ℕ) (s : NumberSet) → ((n : ℕ) → has_bit words n ≡ has s n) → set_of words ≡ s
same_bits words s same = set.same_set nat_cmp_total nat_cmp-IsAntisymmetric (set_of words) s (λ n. has-set_of words n ∙ same n)

-- ---- one more bit

-- words in which bit n is set as well
abbrev pub with_bit : List ℕ → ℕ → List ℕ
with_bit words n = slice_set words (n / 32) (bit_or (get_or words (n / 32) 0) (1 * 2 ^ (n % 32) % 2 ^ 32))

pub with_bit_here : (words : List ℕ) (n : ℕ) → n < 32 * length words → has_bit (with_bit words n) n ≡ true
with_bit_here words n within =
    rw (get_or-set_same words (n / 32) (bit_or (get_or words (n / 32) 0) (1 * 2 ^ (n % 32) % 2 ^ 32)) 0 (omega (arith, within)), bit_at_set_same w32 (get_or words (n / 32) 0) (n % 32) (omega arith)) refl

pub with_bit_else : (words : List ℕ) (n : ℕ) → n < 32 * length words → (k : ℕ) → (k ≡ n → ⊥) → has_bit (with_bit words n) k ≡ has_bit words k
with_bit_else words n within k apart = elim (cases_eq (k / 32) (n / 32)) [
  | inl row ↦
      let place : k % 32 ≢ n % 32 = λ same. apart (omega (arith, row, same)) in
      rw (
        row,
        get_or-set_same words (n / 32) (bit_or (get_or words (n / 32) 0) (1 * 2 ^ (n % 32) % 2 ^ 32)) 0 (omega (arith, within)),
        bit_at_set_other w32 (get_or words (n / 32) 0) (n % 32) (omega arith) (k % 32) place,
      ) refl
  | inr other ↦ rw (get_or-set_other words (n / 32) (k / 32) (bit_or (get_or words (n / 32) 0) (1 * 2 ^ (n % 32) % 2 ^ 32)) 0 other) refl
]

-- ---- the bits of either, and of both

-- the test for 1, of the greater and of the less of two bits
max_test : (x y : ℕ) → x < 2 → y < 2 → (max x y == 1) ≡ ((x == 1) || (y == 1))
max_test zero zero p q = refl
max_test zero (suc zero) p q = refl
max_test (suc zero) zero p q = refl
max_test (suc zero) (suc zero) p q = refl
max_test (suc (suc x)) y p q = absurd (omega (arith, p))
max_test zero (suc (suc y)) p q = absurd (omega (arith, q))
max_test (suc zero) (suc (suc y)) p q = absurd (omega (arith, q))

min_test : (x y : ℕ) → x < 2 → y < 2 → (min x y == 1) ≡ ((x == 1) && (y == 1))
min_test zero zero p q = refl
min_test zero (suc zero) p q = refl
min_test (suc zero) zero p q = refl
min_test (suc zero) (suc zero) p q = refl
min_test (suc (suc x)) y p q = absurd (omega (arith, p))
min_test zero (suc (suc y)) p q = absurd (omega (arith, q))
min_test (suc zero) (suc (suc y)) p q = absurd (omega (arith, q))

-- a bit of `a | b` is set where it is in a or in b
pub either_bit : (a b i : ℕ) → (bit_at (bit_or a b) i == 1) ≡ ((bit_at a i == 1) || (bit_at b i == 1))
either_bit a b i = ap (λ x. x == 1) (bit_at_or a b i) ∙ max_test (bit_at a i) (bit_at b i) (bit_at-lt a i) (bit_at-lt b i)

-- a bit of `a & b` is set where it is in a and in b
pub both_bit : (a b i : ℕ) → (bit_at (bit_and a b) i == 1) ≡ ((bit_at a i == 1) && (bit_at b i == 1))
both_bit a b i = ap (λ x. x == 1) (bit_at_and a b i) ∙ min_test (bit_at a i) (bit_at b i) (bit_at-lt a i) (bit_at-lt b i)

-- a word that is changed changes the bits of its own row alone
bit_elsewhere : (words : List ℕ) (i v k : ℕ) → k / 32 ≢ i → has_bit (slice_set words i v) k ≡ has_bit words k
bit_elsewhere words i v k other = ap (λ w. bit_at w (k % 32) == 1) (get_or-set_other words i (k / 32) v 0 other)

-- a row to which the bits of another are added
or_here : (words others : List ℕ) (k : ℕ) → k / 32 < length words
    → has_bit (slice_set words (k / 32) (bit_or (get_or words (k / 32) 0) (get_or others (k / 32) 0))) k ≡ (has_bit words k || has_bit others k)
or_here words others k within =
    ap (λ w. bit_at w (k % 32) == 1) (get_or-set_same words (k / 32) (bit_or (get_or words (k / 32) 0) (get_or others (k / 32) 0)) 0 within)
    ∙ either_bit (get_or words (k / 32) 0) (get_or others (k / 32) 0) (k % 32)

-- rows of which the first i have the bits of another list of words as well
pub record AreJoined (start others words : List ℕ) (i : ℕ) : Type 0 where
  pub joined : (k : ℕ) → k / 32 < i → has_bit words k ≡ (has_bit start k || has_bit others k)
  pub kept : (k : ℕ) → i ≤ k / 32 → has_bit words k ≡ has_bit start k

pub AreJoined-none : (start others : List ℕ) → AreJoined start others start 0
AreJoined-none start others = record { joined = λ k never. absurd (omega (arith, never)); kept = λ k later. refl }

pub AreJoined-more : (start others words : List ℕ) (i : ℕ) → i < length words → AreJoined start others words i
    → AreJoined start others (slice_set words i (bit_or (get_or words i 0) (get_or others i 0))) (i + 1)
AreJoined-more start others words i within j = record {
  joined = λ k below. elim (cases_eq (k / 32) i) [
    | inl here ↦ rw (← here) (or_here words others k (rw here within) ∙ ap (λ b. b || has_bit others k) (j.kept k (omega (arith, here))))
    | inr other ↦ bit_elsewhere words i _ k other ∙ j.joined k (omega (arith, below, other))
  ];
  kept = λ k later. bit_elsewhere words i _ k (λ same. omega (arith, same, later)) ∙ j.kept k (omega (arith, later));
}

pub AreJoined-all : (start others words : List ℕ) (i : ℕ) → length start ≡ length others → length start ≤ i → AreJoined start others words i
    → (k : ℕ) → has_bit words k ≡ (has_bit start k || has_bit others k)
AreJoined-all start others words i same all j k = elim (cases_lt (k / 32) i) [
  | inl below ↦ j.joined k below
  | inr past ↦ j.kept k past ∙ sym (rw (no_bit_past start k (omega (arith, past, all)), no_bit_past others k (omega (arith, past, all, same))) refl)
]

-- ---- a bit that is set in both

-- the bits of a place in a row
bit_in_row : (words : List ℕ) (i t : ℕ) → t < 32 → has_bit words (32 * i + t) ≡ (bit_at (get_or words i 0) t == 1)
bit_in_row words i t inside =
    let row : (32 * i + t) / 32 ≡ i = omega (arith, inside) in
    let place : (32 * i + t) % 32 ≡ t = omega (arith, inside) in
    rw (row, place) refl

both_found : (a b : ℕ) → a < 2 ^ 32 → (bit_and a b ≡ 0 → ⊥) → (t : ℕ) × (t < 32) × (bit_at a t ≡ 1) × (bit_at b t ≡ 1)
both_found a b fits some =
    let t = trailing_zeros w32 (bit_and a b) in
    let lowest = bit_at-trailing_zeros w32 (bit_and a b) (omega (arith, some)) (omega (arith, and_le_l a b, fits)) in
    let both : min (bit_at a t) (bit_at b t) ≡ 1 = sym (bit_at_and a b t) ∙ lowest.1 in
    (t, lowest.0, omega (arith, both, bit_at-lt a t, bit_at-lt b t), omega (arith, both, bit_at-lt a t, bit_at-lt b t))

-- where the words of a row have a bit in common, the bits meet
pub meet_in_row : (words others : List ℕ) (i : ℕ) → get_or words i 0 < 2 ^ 32 → (bit_and (get_or words i 0) (get_or others i 0) ≡ 0 → ⊥) → MeetBits words others
meet_in_row words others i fits some =
    let (t, inside, left, right) = both_found (get_or words i 0) (get_or others i 0) fits some in
    (32 * i + t, bit_in_row words i t inside ∙ eq-eqb _ 1 left, bit_in_row others i t inside ∙ eq-eqb _ 1 right)

-- where they have none in common, no bit of the row is set in both
pub apart_in_row : (words others : List ℕ) (k : ℕ) → bit_and (get_or words (k / 32) 0) (get_or others (k / 32) 0) ≡ 0 → (has_bit words k && has_bit others k) ≡ false
apart_in_row words others k none = sym (both_bit (get_or words (k / 32) 0) (get_or others (k / 32) 0) (k % 32)) ∙ rw (none, bit_at-zero (k % 32)) refl

-- where no bit within the words is set in both, none is
pub apart_all : (words others : List ℕ) (n : ℕ) → 32 * length words ≤ n → ((k : ℕ) → k < n → (has_bit words k && has_bit others k) ≡ false) → MeetBits words others → ⊥
apart_all words others n all none (k, left, right) =
    let never = none k (omega (arith, bit_within words k left, all)) in
    true≢false (sym (and_from (has_bit words k) (has_bit others k) left right) ∙ never)

-- ---- the next bit

-- the lowest 1 of a word
pub lowest_place : (word : ℕ) → word < 2 ^ 32 → (word ≡ 0 → ⊥) → IsLowestPlace word (trailing_zeros w32 word)
lowest_place word fits some =
    let lowest = bit_at-trailing_zeros w32 word (omega (arith, some)) fits in
    record { inside = lowest.0; here = lowest.1; below = lowest.2 }

-- a bit of a word that is shifted down
shifted_at : (word s t : ℕ) → bit_at (word / 2 ^ s) t ≡ bit_at word (s + t)
shifted_at word s t = ap (λ x. x % 2) (shr-shr word s t)

-- the bit at a place from n on, within the row of n
bit_after : (words : List ℕ) (n t : ℕ) → n % 32 + t < 32 → has_bit words (n + t) ≡ (bit_at (get_or words (n / 32) 0 / 2 ^ (n % 32)) t == 1)
bit_after words n t inside =
    let row : (n + t) / 32 ≡ n / 32 = omega (arith, inside) in
    let place : (n + t) % 32 ≡ n % 32 + t = omega (arith, inside) in
    rw (row, place) (ap (λ x. x == 1) (sym (shifted_at (get_or words (n / 32) 0) (n % 32) t)))

-- a number is so much more than a lesser one
up_to : (P : ℕ → Type 0) (n k : ℕ) → n ≤ k → P (n + (k - n)) → P k
up_to P n k le p = let same : n + (k - n) ≡ k = omega (arith, le) in subst P same p

-- a 1 of a shifted word lies within the word
shifted_within : (word s t : ℕ) → word < 2 ^ 32 → bit_at (word / 2 ^ s) t ≡ 1 → s + t < 32
shifted_within word s t fits one = elim (cases_lt (s + t) 32) [
  | inl within ↦ within
  | inr past ↦ absurd (omega (arith, one, shifted_at word s t, bit_at_above word 32 (s + t) fits past))
]

-- the lowest 1 of the rest of the row of n is the next bit
pub next_in_row : (words : List ℕ) (n t : ℕ) → get_or words (n / 32) 0 < 2 ^ 32 → IsLowestPlace (get_or words (n / 32) 0 / 2 ^ (n % 32)) t → IsLowestBit words n (n + t)
next_in_row words n t fits lowest =
    let within = shifted_within (get_or words (n / 32) 0) (n % 32) t fits lowest.here in
    record {
      from = omega arith;
      here = bit_after words n t within ∙ eq-eqb _ 1 lowest.here;
      before = λ k from below. up_to (λ x. has_bit words x ≡ false) n k from
          (bit_after words n (k - n) (omega (arith, within, below)) ∙ ap (λ x. x == 1) (lowest.below (k - n) (omega (arith, from, below))));
    }

-- where the rest of the row of n is 0, no bit of it is set
pub none_in_row : (words : List ℕ) (n : ℕ) → get_or words (n / 32) 0 / 2 ^ (n % 32) ≡ 0 → NoBits words n (32 * (n / 32 + 1))
none_in_row words n none k from below =
    up_to (λ x. has_bit words x ≡ false) n k from (bit_after words n (k - n) (omega (arith, below)) ∙ rw (none, bit_at-zero (k - n)) refl)

-- the lowest 1 of a later row is the next bit, where no row before has one
pub next_in_later : (words : List ℕ) (n i t : ℕ) → n ≤ 32 * i → NoBits words n (32 * i) → IsLowestPlace (get_or words i 0) t → IsLowestBit words n (32 * i + t)
next_in_later words n i t later none lowest = record {
  from = omega (arith, later);
  here = bit_in_row words i t lowest.inside ∙ eq-eqb _ 1 lowest.here;
  before = λ k from below. elim (cases_lt k (32 * i)) [
    | inl before ↦ none k from before
    | inr inside ↦ up_to (λ x. has_bit words x ≡ false) (32 * i) k inside
        (bit_in_row words i (k - 32 * i) (omega (arith, lowest.inside, below)) ∙ ap (λ x. x == 1) (lowest.below (k - 32 * i) (omega (arith, inside, below))))
  ];
}

-- where a later row is 0 too, no bit up to its end is set
pub none_in_later : (words : List ℕ) (n i : ℕ) → get_or words i 0 ≡ 0 → NoBits words n (32 * i) → NoBits words n (32 * (i + 1))
none_in_later words n i zero_row none k from below = elim (cases_lt k (32 * i)) [
  | inl before ↦ none k from before
  | inr inside ↦ up_to (λ x. has_bit words x ≡ false) (32 * i) k inside (bit_in_row words i (k - 32 * i) (omega (arith, below)) ∙ rw (zero_row, bit_at-zero (k - 32 * i)) refl)
]

-- where no bit within the words is set, none is
pub none_at_all : (words : List ℕ) (n i : ℕ) → length words ≤ i → NoBits words n (32 * i) → (m : ℕ) → NoBits words n m
none_at_all words n i all none m k from below = elim (cases_lt k (32 * i)) [
  | inl before ↦ none k from before
  | inr past ↦ no_bit_past words k (omega (arith, past, all))
]

-- ---- sets

-- words of zeros are the empty set
pub zeros_empty : (w : ℕ) → set_of (replicate w 0) ≡ set.empty
zeros_empty w = same_bits (replicate w 0) set.empty (λ n. elim (cases_lt (n / 32) w) [
  | inl within ↦ rw (get_or-replicate {A = ℕ} w (n / 32) 0 0 within, bit_at-zero (n % 32)) (sym (contains-empty nat_cmp n))
  | inr past ↦ no_bit_past (replicate w 0) n (rw (length-replicate {A = ℕ} w 0) (omega (arith, past))) ∙ sym (contains-empty nat_cmp n)
])

-- one more bit is one more number
pub bit_inserted : (words new : List ℕ) (n : ℕ) → has_bit new n ≡ true → ((k : ℕ) → (k ≡ n → ⊥) → has_bit new k ≡ has_bit words k) → set_of new ≡ set.insert (set_of words) n
bit_inserted words new n here others = same_bits new (set.insert (set_of words) n) (λ k. sym (contains-insert nat_cmp_total (set_of words) n k ∙ (ap (λ b. b || has (set_of words) k) (unsigned_tied k n) ∙ elim (cases_eq k n) [
  | inl same ↦ rw (eq-eqb k n same) (rw same (sym here))
  | inr other ↦ rw (ne_eqb k n other) (has-set_of words k ∙ sym (others k other))
])))

-- the bits of either are the numbers of either
pub bits_joined : (words others new : List ℕ) → ((k : ℕ) → has_bit new k ≡ (has_bit words k || has_bit others k)) → set_of new ≡ set.union (set_of words) (set_of others)
bits_joined words others new joined = same_bits new (set.union (set_of words) (set_of others)) (λ k. joined k
    ∙ sym (contains-union nat_cmp_total (set_of words) (set_of others) k ∙ (λ i. has-set_of words k i || has-set_of others k i)))

-- bits meet just where their sets do
pub bits_meet : (words others : List ℕ) → MeetBits words others ↔ Meet (set_of words) (set_of others)
bits_meet words others = (
  λ (k, left, right). (k, has-set_of words k ∙ left, has-set_of others k ∙ right),
  λ (k, left, right). (k, sym (has-set_of words k) ∙ left, sym (has-set_of others k) ∙ right),
)

-- the next bit is the next number
pub next_number : (words : List ℕ) (n : ℕ) (next : Option ℕ) → IsNextBit words n next → IsNext (set_of words) n next
next_number words n None none = λ m k from below. has-set_of words k ∙ none m k from below
next_number words n (Some p) is = record {
  from = is.from;
  here = has-set_of words p ∙ is.here;
  before = λ k from below. has-set_of words k ∙ is.before k from below;
}

pub next_within : (words : List ℕ) (n : ℕ) (next : Option ℕ) → IsNextBit words n next → IfSome next (λ p. p < 32 * length words)
next_within words n None none = search rules
next_within words n (Some p) is = bit_within words p is.here

-- Sets of types by bits.
use Rattle.std.proofs.Common.{◌≡◌, ◌≢◌, ℕ, zero, suc, ◌*◌, ◌<◌, ◌≤◌, ◌==◌, ◌%◌, ◌^◌, true, inl, inr, sym, ap, ◌∙◌, arith}
use Rattle.std.specs.Int.{bit_not, w64, trailing_zeros}
use Rattle.std.specs.Int.Count.{trailing_of_zero}
use Rattle.std.specs.Int.RustNames.{bit_and}
use Rattle.std.proofs.lemmas.Bool.{true≢false}
use Rattle.std.proofs.lemmas.Bool.Decides.{eqb_tells}
use Rattle.std.proofs.lemmas.Nat.{and_le_l}
use Rattle.std.proofs.lemmas.Nat.Bits.{bit_at-trailing_zeros, bit_at_clear_same, bit_at_clear_other}
use Rattle.sel_algebra.specs.Table.{types_most}
use Rattle.query_draw.specs.Columns.{has}
use Rattle.query_draw.specs.TypeSets.{HasNone, IsLeastType, IsWithout}
use Rattle.query_draw.proofs.ColumnLemmas.{has_none}

lowest : (set : ℕ) → set < 2 ^ 64 → HasNone set (trailing_zeros w64 set)
lowest zero fits k lt = has_none k
lowest (suc set) fits k lt =
    let (within, here, below) = bit_at-trailing_zeros w64 (suc set) (omega arith) fits in
    ap (λ x. x == 1) (below k lt)

lowest_there : (set : ℕ) → set < 2 ^ 64 → trailing_zeros w64 set < 64 → has set (trailing_zeros w64 set) ≡ true
lowest_there zero fits lt = absurd (omega (arith, trailing_of_zero 64, lt))
lowest_there (suc set) fits lt =
    let (within, here, below) = bit_at-trailing_zeros w64 (suc set) (omega arith) fits in
    ap (λ x. x == 1) here

-- the place of the lowest bit is the least type
pub IsLeastType-lowest : (set n : ℕ) → set < 2 ^ 64 → n ≤ types_most → trailing_zeros w64 set < n → IsLeastType set n (trailing_zeros w64 set)
IsLeastType-lowest set n fits few lt = record { within = lt; here = lowest_there set fits (omega (arith, lt, few)); least = lowest set fits }

pub HasNone-lowest : (set n : ℕ) → set < 2 ^ 64 → n ≤ trailing_zeros w64 set → HasNone set n
HasNone-lowest set n fits le k lt = lowest set fits k (omega (arith, le, lt))

pub IsWithout-cleared : (set t : ℕ) → t < types_most → IsWithout set t (bit_and set (bit_not w64 (1 * 2 ^ t % 2 ^ 64)))
IsWithout-cleared set t lt = record {
  here = ap (λ x. x == 1) (bit_at_clear_same w64 set t lt);
  others = λ k within differ. ap (λ x. x == 1) (bit_at_clear_other w64 set t lt k within differ);
  at_most = and_le_l set (bit_not w64 (1 * 2 ^ t % 2 ^ 64));
}

-- a set without one of its types is a lesser number
pub IsWithout-lesser : (set t new : ℕ) → has set t ≡ true → IsWithout set t new → new < set
IsWithout-lesser set t new there without =
    let differ : new ≢ set = λ same. let clash = sym (without.here) ∙ (ap (λ x. has x t) same ∙ there) in cc in
    let le = without.at_most in
    omega (arith, differ, le)

-- each type of a set is in another one
abbrev pub AreIn : ℕ → ℕ → Type 0
AreIn set all = (k : ℕ) → k < types_most → has set k ≡ true → has all k ≡ true

pub AreIn-without : (set all t new : ℕ) → IsWithout set t new → AreIn set all → AreIn new all
AreIn-without set all t new without are k lt there = elim (eqb_tells k t) [
  | inl hit ↦ absurd (true≢false (sym there ∙ (ap (has new) hit.1 ∙ without.here)))
  | inr miss ↦ are k lt (sym (without.others k lt miss.1) ∙ there)
]

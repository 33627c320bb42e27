-- The unit, entry by entry along its diagonal.
use Rattle.std.proofs.Common.{◌≡◌, ℕ, zero, suc, ◌+◌, ◌*◌, ◌/◌, ◌%◌, ◌<◌, ◌==◌, ◌&&◌, nat_lt, if◌then◌else◌, Bool, true, false, Option, Some, None, List, length, replicate, slice_index_or, slice_set, refl, ap, sym, subst, ◌∙◌, inl, inr, arith}
use Rattle.std.proofs.lemmas.Bool.{cases_eq, cases_lt, eq-eqb, lt-ltb, le-ltb}
use Rattle.std.proofs.lemmas.Bool.Decides.{eqb_tells}
use Rattle.std.proofs.lemmas.List.{get_or-set_same, get_or-set_other, ext_get_or}
use Rattle.std.proofs.lemmas.List.FromFn.{get_or-map-range_with_len}
use Rattle.std.proofs.lemmas.Nat.{div-mul-add, mod-mul-add, mul-add-lt, div-add-mod'}
use Rattle.sel_algebra.specs.declared.vocabulary.Op.{Op}
use Rattle.sel_algebra.specs.declared.vocabulary.Op.TheVariants.{Equal}
use Rattle.sel_algebra.specs.declared.vocabulary.Kind.{Kind}
use Rattle.sel_algebra.specs.Table.{one_at, one_of}
use Rattle.sel_algebra.proofs.TableLemmas.{row-lt, whole-table_of}

-- whether place p of n rows is in the diagonal, in one of the first t rows
abbrev pub on_diagonal : ℕ → ℕ → ℕ → Bool
on_diagonal n t p = (p / n == p % n) && nat_lt (p / n) t

-- the entry at place p where the first t types lead to themselves
abbrev pub equal_below : ℕ → ℕ → ℕ → Option Op
equal_below n t p = if on_diagonal n t p then Some Equal else None

same_everywhere : {X : Type 0} (n p : ℕ) (d : X) → slice_index_or (replicate n d) p d ≡ d
same_everywhere zero p d = refl
same_everywhere (suc n) zero d = refl
same_everywhere (suc n) (suc p) d = same_everywhere n p d

never : {X : Type 0} (a : Bool) (x y : X) → (if a && false then x else y) ≡ y
never true x y = refl
never false x y = refl

pub equal_start : (n p : ℕ) → slice_index_or (replicate (n * n) None) p None ≡ equal_below n 0 p
equal_start n p =
    same_everywhere (n * n) p None ∙ sym (ap (λ b. if (p / n == p % n) && b then Some Equal else None) (le-ltb (p / n) 0 (omega arith)) ∙ never (p / n == p % n) (Some Equal) None)

on_diagonal-here : (n t : ℕ) → t < n → on_diagonal n (t + 1) (t * n + t) ≡ true
on_diagonal-here n t lt = rw (div-mul-add t n t lt, mod-mul-add t n t lt, eq-eqb t t refl) (lt-ltb t (t + 1) (omega arith))

on_diagonal-other : (n t p : ℕ) → (p ≡ t * n + t → ⊥) → on_diagonal n t p ≡ on_diagonal n (t + 1) p
on_diagonal-other n t p differ = elim (eqb_tells (p / n) (p % n)) [
  | inl (hit, same) ↦ ap (λ b. (p / n == p % n) && b) (rows same)
  | inr (miss, apart) ↦ rw miss refl
]
  where
    rows : p / n ≡ p % n → nat_lt (p / n) t ≡ nat_lt (p / n) (t + 1)
    rows same = elim (cases_eq (p / n) t) [
      | inl here ↦ absurd (differ (sym (div-add-mod' p n) ∙ (λ k. here k * n + (sym same ∙ here) k)))
      | inr other ↦ elim (cases_lt (p / n) t) [
        | inl below ↦ lt-ltb (p / n) t below ∙ sym (lt-ltb (p / n) (t + 1) (omega (arith, below)))
        | inr past ↦ le-ltb (p / n) t past ∙ sym (le-ltb (p / n) (t + 1) (omega (arith, past, other)))
      ]
    ]

pub equal_step : (n t p : ℕ) (cells : List (Option Op)) → t < n → length cells ≡ n * n → slice_index_or cells p None ≡ equal_below n t p
    → slice_index_or (slice_set cells (t * n + t) (Some Equal)) p None ≡ equal_below n (t + 1) p
equal_step n t p cells lt long was =
    let inside : t * n + t < length cells = rw long (mul-add-lt t n t n lt lt) in
    elim (cases_eq p (t * n + t)) [
      | inl same ↦ subst (λ q. slice_index_or (slice_set cells (t * n + t) (Some Equal)) q None ≡ equal_below n (t + 1) q) (sym same)
          (get_or-set_same cells (t * n + t) (Some Equal) None inside ∙ sym (ap (λ b. if b then Some Equal else None) (on_diagonal-here n t lt)))
      | inr differ ↦ get_or-set_other cells (t * n + t) p (Some Equal) None differ ∙ (was ∙ ap (λ b. if b then Some Equal else None) (on_diagonal-other n t p differ))
    ]

true_if : (a : Bool) → (if a && true then Some Equal else None) ≡ (if a then Some Equal else None)
true_if true = refl
true_if false = refl

pub equal_end : (kinds : List Kind) (cells : List (Option Op)) → length cells ≡ length kinds * length kinds
    → ((p : ℕ) → slice_index_or cells p None ≡ equal_below (length kinds) (length kinds) p) → cells ≡ (one_of kinds).cells
equal_end kinds cells long is =
    let n = length kinds in
    ext_get_or None cells (one_of kinds).cells (long ∙ sym (whole-table_of kinds one_at)) (λ p inside.
    let lt : p < n * n = rw long at inside in
    is p ∙ (ap (λ b. if (p / n == p % n) && b then Some Equal else None) (lt-ltb (p / n) n (row-lt p n lt))
    ∙ (true_if (p / n == p % n) ∙ sym (get_or-map-range_with_len (λ r. one_at (r / n) (r % n)) 0 (n * n) p p None lt (omega arith)))))

-- The measure of the rounds: how far entries may still rise.
use Rattle.std.proofs.Common.{◌≡◌, ◌+◌, ◌-◌, ◌*◌, ◌<◌, ◌≤◌, ℕ, suc, Option, Some, None, List, [], ◌∷◌, length, get_or, ◌⊎◌, inl, inr, refl, ap, arith}
use Rattle.sel_algebra.specs.declared.vocabulary.Op.{Op}
use Rattle.sel_algebra.specs.Operators.{AtMost, column}
use Rattle.sel_algebra.specs.Entries.{EntryAtMost}

-- the number of steps by which an entry has risen from nothing, at most four
abbrev pub rank : Option Op → ℕ
rank None = 0
rank (Some a) = column a 1 2 2 3 4

-- the steps by which all entries have risen
abbrev pub ranks : List (Option Op) → ℕ
ranks [] = 0
ranks (x ∷ xs) = rank x + ranks xs

-- the steps by which all entries may still rise
abbrev pub room : List (Option Op) → ℕ
room xs = 4 * length xs - ranks xs

rank_op-cases : (a b : Op) → AtMost a b → (a ≡ b) ⊎ (rank (Some a) < rank (Some b))
rank_op-cases a b p = grind arith

rank_op-pos : (a : Op) → 0 < rank (Some a)
rank_op-pos a = grind arith

rank_op-most : (a : Op) → rank (Some a) ≤ 4
rank_op-most a = grind arith

-- an entry that is at most another is the same or has a lower rank
rank-cases : (a b : Option Op) → EntryAtMost a b → (a ≡ b) ⊎ (rank a < rank b)
rank-cases None None p = inl refl
rank-cases None (Some b) p = inr (rank_op-pos b)
rank-cases (Some a) None p = elim p [ ]
rank-cases (Some a) (Some b) p = elim (rank_op-cases a b p) [ inl e ↦ inl (ap Some e) | inr lt ↦ inr lt ]

rank-most : (a : Option Op) → rank a ≤ 4
rank-most None = omega arith
rank-most (Some a) = rank_op-most a

pub ranks-most : (xs : List (Option Op)) → ranks xs ≤ 4 * length xs
ranks-most [] = omega arith
ranks-most (x ∷ xs) = omega (arith, rank-most x, ranks-most xs)

-- entries that are at most others, place by place, have no higher ranks
ranks-le : (xs ys : List (Option Op)) → length xs ≡ length ys → ((p : ℕ) → EntryAtMost (get_or xs p None) (get_or ys p None)) → ranks xs ≤ ranks ys
ranks-le [] [] e h = omega arith
ranks-le [] (y ∷ ys) e h = absurd (omega arith)
ranks-le (x ∷ xs) [] e h = absurd (omega arith)
ranks-le (x ∷ xs) (y ∷ ys) e h =
    let tails = ranks-le xs ys (omega arith) (λ p. h (suc p)) in
    elim (rank-cases x y (h 0)) [ inl same ↦ omega (arith, ap rank same) | inr lt ↦ omega arith ]

-- and are the same where they have no lower ones
pub same_or_higher : (xs ys : List (Option Op)) → length xs ≡ length ys → ((p : ℕ) → EntryAtMost (get_or xs p None) (get_or ys p None)) → (xs ≡ ys) ⊎ (ranks xs < ranks ys)
same_or_higher [] [] e h = inl refl
same_or_higher [] (y ∷ ys) e h = absurd (omega arith)
same_or_higher (x ∷ xs) [] e h = absurd (omega arith)
same_or_higher (x ∷ xs) (y ∷ ys) e h = elim (rank-cases x y (h 0)) [
  | inl same ↦ elim (same_or_higher xs ys (omega arith) (λ p. h (suc p))) [
    | inl tails ↦ inl (λ i. same i ∷ tails i)
    | inr lt ↦ inr (omega (arith, ap rank same, lt))
  ]
  | inr lt ↦ let tails = ranks-le xs ys (omega arith) (λ p. h (suc p)) in inr (omega (arith, lt, tails))
]

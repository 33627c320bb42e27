-- The greatest class of the entries: of the rows of a matrix, and of the entries of a row.
use Rattle.std.proofs.Common.{◌≡◌, ◌↔◌, ◌<◌, ℕ, zero, suc, if◌then◌else◌, Option, Some, None, IfSome, IsNone, length, ◌⊎◌, inl, inr, refl, ap, sym, ◌∙◌, subst, arith}
use Rattle.std.proofs.Math.Nat.{eq-or-lt_of_le}
use Rattle.sel_algebra.specs.declared.vocabulary.Op.{Op}
use Rattle.sel_algebra.specs.declared.vocabulary.Kind.{Kind}
use Rattle.sel_algebra.specs.declared.vocabulary.Class.{Class}
use Rattle.sel_algebra.specs.Operators.{class_at_most, ClassAtMost}
use Rattle.sel_algebra.specs.Entries.{entry_class, ClassEntryAtMost, greater_class}
use Rattle.sel_algebra.specs.Table.{Table, entry, HasNoEntries}
use Rattle.sel_algebra.specs.Greatest.{class_at, HasClass, IsGreatestClass, greatest_below, greatest_from, greatest_class_of}

ClassAtMost-refl : (a : Class) → ClassAtMost a a
ClassAtMost-refl a = grind arith

ClassAtMost-trans : (a b c : Class) → ClassAtMost a b → ClassAtMost b c → ClassAtMost a c
ClassAtMost-trans a b c p q = grind arith

ClassAtMost-antisym : (a b : Class) → ClassAtMost a b → ClassAtMost b a → a ≡ b
ClassAtMost-antisym a b p q = grind arith

greater-left : (a b : Class) → ClassAtMost a (if class_at_most a b then b else a)
greater-left a b = grind arith

greater-right : (a b : Class) → ClassAtMost b (if class_at_most a b then b else a)
greater-right a b = grind arith

greater-either : (a b : Class) → ((if class_at_most a b then b else a) ≡ a) ⊎ ((if class_at_most a b then b else a) ≡ b)
greater-either a b = grind arith

ClassEntryAtMost-refl : (a : Option Class) → ClassEntryAtMost a a
ClassEntryAtMost-refl None = tt
ClassEntryAtMost-refl (Some a) = ClassAtMost-refl a

pub ClassEntryAtMost-trans : (a b c : Option Class) → ClassEntryAtMost a b → ClassEntryAtMost b c → ClassEntryAtMost a c
ClassEntryAtMost-trans None b c p q = tt
ClassEntryAtMost-trans (Some a) None c p q = elim p [ ]
ClassEntryAtMost-trans (Some a) (Some b) None p q = elim q [ ]
ClassEntryAtMost-trans (Some a) (Some b) (Some c) p q = ClassAtMost-trans a b c p q

ClassEntryAtMost-antisym : (a b : Option Class) → ClassEntryAtMost a b → ClassEntryAtMost b a → a ≡ b
ClassEntryAtMost-antisym None None p q = refl
ClassEntryAtMost-antisym None (Some b) p q = elim q [ ]
ClassEntryAtMost-antisym (Some a) None p q = elim p [ ]
ClassEntryAtMost-antisym (Some a) (Some b) p q = ap Some (ClassAtMost-antisym a b p q)

greater_class-left : (a b : Option Class) → ClassEntryAtMost a (greater_class a b)
greater_class-left None b = tt
greater_class-left (Some a) None = ClassAtMost-refl a
greater_class-left (Some a) (Some b) = greater-left a b

greater_class-right : (a b : Option Class) → ClassEntryAtMost b (greater_class a b)
greater_class-right None b = ClassEntryAtMost-refl b
greater_class-right (Some a) None = tt
greater_class-right (Some a) (Some b) = greater-right a b

greater_class-either : (a b : Option Class) → (greater_class a b ≡ a) ⊎ (greater_class a b ≡ b)
greater_class-either None b = inr refl
greater_class-either (Some a) None = inl refl
greater_class-either (Some a) (Some b) = elim (greater-either a b) [ inl first ↦ inl (ap Some first) | inr second ↦ inr (ap Some second) ]

pub greatest_below-none : (f : ℕ → Option Class) → greatest_below 0 f ≡ None
unfolding greatest_below
greatest_below-none f = refl

pub greatest_below-more : (n : ℕ) (f : ℕ → Option Class) → greatest_below (suc n) f ≡ greater_class (greatest_below n f) (f n)
unfolding greatest_below
greatest_below-more n f = refl

-- each class is at most the greatest
at_most_greatest : (n : ℕ) (f : ℕ → Option Class) (k : ℕ) → k < n → ClassEntryAtMost (f k) (greatest_below n f)
unfolding greatest_below
at_most_greatest zero f k lt = absurd (omega arith)
at_most_greatest (suc n) f k lt = elim (eq-or-lt_of_le {n = k} {m = n} (omega arith)) [
  | inl e ↦ rw e (greater_class-right (greatest_below n f) (f n))
  | inr below ↦ ClassEntryAtMost-trans (f k) (greatest_below n f) _ (at_most_greatest n f k below) (greater_class-left (greatest_below n f) (f n))
]

-- and the greatest is one of them
greatest_is_one : (n : ℕ) (f : ℕ → Option Class) (class : Class) → greatest_below n f ≡ Some class → (k : ℕ) × ((k < n) × (f k ≡ Some class))
unfolding greatest_below
greatest_is_one zero f class e = absurd (cc)
greatest_is_one (suc n) f class e = elim (greater_class-either (greatest_below n f) (f n)) [
  | inl before ↦ let (k, (lt, is)) = greatest_is_one n f class (sym before ∙ e) in (k, (omega arith, is))
  | inr last ↦ (n, (omega arith, sym last ∙ e))
]

attained-greatest : (t : Table) (greatest : Option Class) → greatest_class_of t ≡ greatest → IfSome greatest (λ class. HasClass t class)
attained-greatest t None e = tt
attained-greatest t (Some class) e =
    let (i, (p, row)) = greatest_is_one (length t.kinds) (greatest_from t) class e in
    let (j, (q, here)) = greatest_is_one (length t.kinds) (class_at t i) class row in
    (i, (j, (p, (q, here))))

pub IsGreatestClass-greatest_class_of : (t : Table) → IsGreatestClass t (greatest_class_of t)
IsGreatestClass-greatest_class_of t = record {
  attained = attained-greatest t (greatest_class_of t) refl;
  at_least = λ i j p q. ClassEntryAtMost-trans (class_at t i j) (greatest_from t i) (greatest_class_of t)
      (at_most_greatest (length t.kinds) (class_at t i) j q) (at_most_greatest (length t.kinds) (greatest_from t) i p);
}

-- one greatest class is at most another
greatest-most : (t : Table) (first second : Option Class) → IsGreatestClass t first → IsGreatestClass t second → ClassEntryAtMost first second
greatest-most t None second g h = tt
greatest-most t (Some class) second g h =
    let (i, (j, (p, (q, here)))) = g.attained in
    subst (λ c. ClassEntryAtMost c second) here (h.at_least i j p q)

pub greatest_class_unique : (t : Table) (greatest : Option Class) → IsGreatestClass t greatest ↔ (greatest ≡ greatest_class_of t)
greatest_class_unique t greatest =
    let whole = IsGreatestClass-greatest_class_of t in (
      λ g. ClassEntryAtMost-antisym greatest (greatest_class_of t) (greatest-most t greatest (greatest_class_of t) g whole) (greatest-most t (greatest_class_of t) greatest whole g),
      λ e. subst (IsGreatestClass t) (sym e) whole,
    )

no_class : (a : Option Op) (from to : Kind) → ClassEntryAtMost (entry_class a from to) None → a ≡ None
no_class None from to p = refl
no_class (Some a) from to p = elim p [ ]

no_entry : (t : Table) (class : Class) → HasNoEntries t → HasClass t class → ⊥
no_entry t class h (i, (j, (p, (q, e)))) = let clash = rw (h i j p q) at e in cc

-- there is no greatest class exactly where there is no entry
pub IsNone-greatest : (t : Table) (greatest : Option Class) → IsGreatestClass t greatest → IsNone greatest ↔ HasNoEntries t
IsNone-greatest t None g = (λ _ i j p q. no_class (entry t i j) _ _ (g.at_least i j p q), λ _. refl)
IsNone-greatest t (Some class) g = (λ h. let clash : ⊥ = cc in absurd clash, λ h. absurd (no_entry t class h g.attained))

-- The order of entries, and what joins and compositions keep.
use Rattle.std.proofs.Common.{◌≡◌, ◌<◌, ℕ, zero, suc, Option, Some, None, inl, inr, refl, ap, arith}
use Rattle.std.proofs.Math.Nat.{eq-or-lt_of_le}
use Rattle.sel_algebra.specs.declared.vocabulary.Op.{Op}
use Rattle.sel_algebra.specs.declared.vocabulary.Kind.{Kind}
use Rattle.sel_algebra.specs.Operators.{AtMost, join_of, normal_of, IsNormal, typed_composition}
use Rattle.sel_algebra.specs.Entries.{joined, join_below, composed, EntryAtMost, IsNormalEntry}

AtMost-refl : (a : Op) → AtMost a a
AtMost-refl a = grind arith

AtMost-trans : (a b c : Op) → AtMost a b → AtMost b c → AtMost a c
AtMost-trans a b c p q = grind arith

AtMost-antisym : (a b : Op) → AtMost a b → AtMost b a → a ≡ b
AtMost-antisym a b p q = grind arith

AtMost-join_left : (a b : Op) → AtMost a (join_of a b)
AtMost-join_left a b = grind arith

AtMost-join_right : (a b : Op) → AtMost b (join_of a b)
AtMost-join_right a b = grind arith

join_of-AtMost : (a b c : Op) → AtMost a c → AtMost b c → AtMost (join_of a b) c
join_of-AtMost a b c p q = grind arith

typed_composition-mono : (a b c d : Op) (from to : Kind) → AtMost a c → AtMost b d → AtMost (typed_composition a b from to) (typed_composition c d from to)
typed_composition-mono a b c d from to p q = grind arith

IsNormal-join_of : (a b : Op) (from to : Kind) → IsNormal a from to → IsNormal b from to → IsNormal (join_of a b) from to
IsNormal-join_of a b from to p q = grind arith

pub IsNormal-normal_of : (a : Op) (from to : Kind) → IsNormal (normal_of a from to) from to
IsNormal-normal_of a from to = grind arith

pub EntryAtMost-refl : (a : Option Op) → EntryAtMost a a
EntryAtMost-refl None = tt
EntryAtMost-refl (Some a) = AtMost-refl a

pub EntryAtMost-trans : (a b c : Option Op) → EntryAtMost a b → EntryAtMost b c → EntryAtMost a c
EntryAtMost-trans None b c p q = tt
EntryAtMost-trans (Some a) None c p q = elim p [ ]
EntryAtMost-trans (Some a) (Some b) None p q = elim q [ ]
EntryAtMost-trans (Some a) (Some b) (Some c) p q = AtMost-trans a b c p q

pub EntryAtMost-antisym : (a b : Option Op) → EntryAtMost a b → EntryAtMost b a → a ≡ b
EntryAtMost-antisym None None p q = refl
EntryAtMost-antisym None (Some b) p q = elim q [ ]
EntryAtMost-antisym (Some a) None p q = elim p [ ]
EntryAtMost-antisym (Some a) (Some b) p q = ap Some (AtMost-antisym a b p q)

pub EntryAtMost-joined_left : (a b : Option Op) → EntryAtMost a (joined a b)
EntryAtMost-joined_left None b = tt
EntryAtMost-joined_left (Some a) None = AtMost-refl a
EntryAtMost-joined_left (Some a) (Some b) = AtMost-join_left a b

pub EntryAtMost-joined_right : (a b : Option Op) → EntryAtMost b (joined a b)
EntryAtMost-joined_right None b = EntryAtMost-refl b
EntryAtMost-joined_right (Some a) None = tt
EntryAtMost-joined_right (Some a) (Some b) = AtMost-join_right a b

pub joined-EntryAtMost : (a b c : Option Op) → EntryAtMost a c → EntryAtMost b c → EntryAtMost (joined a b) c
joined-EntryAtMost None b c p q = q
joined-EntryAtMost (Some a) None c p q = p
joined-EntryAtMost (Some a) (Some b) None p q = p
joined-EntryAtMost (Some a) (Some b) (Some c) p q = join_of-AtMost a b c p q

pub joined-none : (a : Option Op) → joined a None ≡ a
joined-none None = refl
joined-none (Some a) = refl

-- joins of greater entries are greater
pub joined-mono : (a b c d : Option Op) → EntryAtMost a c → EntryAtMost b d → EntryAtMost (joined a b) (joined c d)
joined-mono a b c d p q =
    joined-EntryAtMost a b (joined c d) (EntryAtMost-trans a c _ p (EntryAtMost-joined_left c d)) (EntryAtMost-trans b d _ q (EntryAtMost-joined_right c d))

-- compositions of greater entries are greater
pub composed-mono : (a b c d : Option Op) (from to : Kind) → EntryAtMost a c → EntryAtMost b d → EntryAtMost (composed a b from to) (composed c d from to)
composed-mono None b c d from to p q = tt
composed-mono (Some a) None c d from to p q = tt
composed-mono (Some a) (Some b) None d from to p q = elim p [ ]
composed-mono (Some a) (Some b) (Some c) None from to p q = elim q [ ]
composed-mono (Some a) (Some b) (Some c) (Some d) from to p q = typed_composition-mono a b c d from to p q

pub join_below-none : (f : ℕ → Option Op) → join_below 0 f ≡ None
unfolding join_below
join_below-none f = refl

pub join_below-more : (n : ℕ) (f : ℕ → Option Op) → join_below (suc n) f ≡ joined (join_below n f) (f n)
unfolding join_below
join_below-more n f = refl

-- the join of greater entries is greater
pub join_below-mono : (n : ℕ) (f g : ℕ → Option Op) → ((k : ℕ) → k < n → EntryAtMost (f k) (g k)) → EntryAtMost (join_below n f) (join_below n g)
unfolding join_below
join_below-mono zero f g h = tt
join_below-mono (suc n) f g h =
    joined-mono (join_below n f) (f n) (join_below n g) (g n) (join_below-mono n f g (λ k lt. h k (omega arith))) (h n (omega arith))

-- each entry is at most the join
pub EntryAtMost-join_below : (n : ℕ) (f : ℕ → Option Op) (k : ℕ) → k < n → EntryAtMost (f k) (join_below n f)
unfolding join_below
EntryAtMost-join_below zero f k lt = absurd (omega arith)
EntryAtMost-join_below (suc n) f k lt = elim (eq-or-lt_of_le {n = k} {m = n} (omega arith)) [
  | inl e ↦ rw e (EntryAtMost-joined_right (join_below n f) (f n))
  | inr below ↦ EntryAtMost-trans (f k) (join_below n f) _ (EntryAtMost-join_below n f k below) (EntryAtMost-joined_left (join_below n f) (f n))
]

pub IsNormalEntry-joined : (a b : Option Op) (from to : Kind) → IsNormalEntry a from to → IsNormalEntry b from to → IsNormalEntry (joined a b) from to
IsNormalEntry-joined None b from to p q = q
IsNormalEntry-joined (Some a) None from to p q = p
IsNormalEntry-joined (Some a) (Some b) from to p q = IsNormal-join_of a b from to p q

pub IsNormalEntry-composed : (a b : Option Op) (from to : Kind) → IsNormalEntry (composed a b from to) from to
IsNormalEntry-composed None b from to = tt
IsNormalEntry-composed (Some a) None from to = tt
IsNormalEntry-composed (Some a) (Some b) from to = IsNormal-normal_of _ from to

pub IsNormalEntry-join_below : (n : ℕ) (f : ℕ → Option Op) (from to : Kind) → ((k : ℕ) → IsNormalEntry (f k) from to) → IsNormalEntry (join_below n f) from to
unfolding join_below
IsNormalEntry-join_below zero f from to h = tt
IsNormalEntry-join_below (suc n) f from to h = IsNormalEntry-joined (join_below n f) (f n) from to (IsNormalEntry-join_below n f from to h) (h n)

-- Runs of bytes at the front of a text.
use Rattle.std.proofs.Common.{◌≡◌, ◌≤◌, ◌<◌, ◌∙◌, ℕ, Bool, true, false, List, [], ◌∷◌, refl, ap, ◌-◌, take, drop, length, if◌then◌else◌, arith}
use Rattle.std.proofs.lemmas.List.{take_all, length-drop}
use Rattle.sparql_read.specs.Tokens.{run_of, behind_run}
use Rattle.sparql_read.specs.View.{kind_test, begins_with}
use Rattle.sparql_read.specs.declared.lexer.Kind.{Kind}

run_most : (is_in : ℕ → Bool) (bs : List ℕ) → length (run_of is_in bs) ≤ length bs
run_most is_in [] = omega arith
run_most is_in (b ∷ bs) = most_if (is_in b) (run_most is_in bs)
  where
    most_if : (c : Bool) → length (run_of is_in bs) ≤ length bs → length (if c then b ∷ run_of is_in bs else []) ≤ length (b ∷ bs)
    most_if true more = omega (arith, more)
    most_if false more = omega arith

run_front : (is_in : ℕ → Bool) (bs : List ℕ) → take (length (run_of is_in bs)) bs ≡ run_of is_in bs
run_front is_in [] = refl
run_front is_in (b ∷ bs) = front_if (is_in b) (run_front is_in bs)
  where
    front_if : (c : Bool) → take (length (run_of is_in bs)) bs ≡ run_of is_in bs
        → take (length (if c then b ∷ run_of is_in bs else [])) (b ∷ bs) ≡ (if c then b ∷ run_of is_in bs else [])
    front_if true more = ap (λ (xs : List ℕ). b ∷ xs) more
    front_if false more = refl

run_behind : (is_in : ℕ → Bool) (bs : List ℕ) → drop (length (run_of is_in bs)) bs ≡ behind_run is_in bs
run_behind is_in [] = refl
run_behind is_in (b ∷ bs) = behind_if (is_in b) (run_behind is_in bs)
  where
    behind_if : (c : Bool) → drop (length (run_of is_in bs)) bs ≡ behind_run is_in bs
        → drop (length (if c then b ∷ run_of is_in bs else [])) (b ∷ bs) ≡ (if c then behind_run is_in bs else b ∷ bs)
    behind_if true more = more
    behind_if false more = refl

behind_most : (is_in : ℕ → Bool) (bs : List ℕ) → length (behind_run is_in bs) ≤ length bs
behind_most is_in [] = omega arith
behind_most is_in (b ∷ bs) = most_if (is_in b) (behind_most is_in bs)
  where
    most_if : (c : Bool) → length (behind_run is_in bs) ≤ length bs → length (if c then behind_run is_in bs else b ∷ bs) ≤ length (b ∷ bs)
    most_if true more = omega (arith, more)
    most_if false more = omega arith

pub run_within : (kind : Kind) (bs : List ℕ) → length (run_of (kind_test kind) bs) ≤ length bs
run_within kind bs = run_most (kind_test kind) bs

pub take_run : (kind : Kind) (bs : List ℕ) → take (length (run_of (kind_test kind) bs)) bs ≡ run_of (kind_test kind) bs
take_run kind bs = run_front (kind_test kind) bs

pub drop_run : (kind : Kind) (bs : List ℕ) → drop (length (run_of (kind_test kind) bs)) bs ≡ behind_run (kind_test kind) bs
drop_run kind bs = run_behind (kind_test kind) bs

pub behind_shorter : (kind : Kind) (bs : List ℕ) → length (behind_run (kind_test kind) bs) ≤ length bs
behind_shorter kind bs = behind_most (kind_test kind) bs

pub behind_less : (kind : Kind) (bs : List ℕ) → begins_with kind bs ≡ true → length (behind_run (kind_test kind) bs) < length bs
behind_less kind [] e = absurd (false_true e)
  where
    false_true : ◌≡◌ {A = Bool} false true → ⊥
    false_true e = cc
behind_less kind (b ∷ bs) e = rw e (less (behind_shorter kind bs))
  where
    less : length (behind_run (kind_test kind) bs) ≤ length bs → length (behind_run (kind_test kind) bs) < length (b ∷ bs)
    less h = omega (arith, h)

pub cut_run : (kind : Kind) (bs : List ℕ) (n : ℕ) → n ≡ length (run_of (kind_test kind) bs)
    → take (length bs - n) (drop n bs) ≡ behind_run (kind_test kind) bs
cut_run kind bs n e = take_all (length bs - n) (drop n bs) (rw length-drop (omega arith)) ∙ rw e (drop_run kind bs)

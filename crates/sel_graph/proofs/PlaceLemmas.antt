-- Places of operators at types.
use Rattle.std.proofs.Common.{◌≡◌, ℕ, zero, suc, ◌*◌, ◌/◌, ◌%◌, ◌<◌, refl, ap, ◌∙◌, arith}
use Rattle.sel_algebra.specs.declared.vocabulary.Op.{Op}
use Rattle.sel_algebra.specs.declared.vocabulary.Op.TheVariants.{Equal, Less, Greater, Diamond, Cross}
use Rattle.sel_graph.specs.declared.states.State.{State}
use Rattle.sel_graph.specs.States.{op_number, place_of, place}
use Rattle.sel_graph.specs.Numbers.{op_at, state_at}

pub op_number-below : (a : Op) → op_number a < 5
op_number-below a = grind arith

pub op_number-same : (a b : Op) → op_number a ≡ op_number b → a ≡ b
op_number-same a b same = grind arith

pub op_at-number : (a : Op) → op_at (op_number a) ≡ a
op_at-number Equal = refl
op_at-number Less = refl
op_at-number Greater = refl
op_at-number Diamond = refl
op_at-number Cross = refl

-- places are the same just where their types and operators are
pub place-type : (u v : ℕ) (a b : Op) → place_of u a ≡ place_of v b → u ≡ v
place-type u v a b same = omega (arith, same, op_number-below a, op_number-below b)

pub place-op : (u v : ℕ) (a b : Op) → place_of u a ≡ place_of v b → a ≡ b
place-op u v a b same = op_number-same a b (omega (arith, same, op_number-below a, op_number-below b))

pub place-below : (k u : ℕ) (a : Op) → u < k → place_of u a < 5 * k
place-below k u a inside = omega (arith, op_number-below a)

pub same_state : (u t : State) → u.start ≡ t.start → u.at ≡ t.at → u.op ≡ t.op → u ≡ t
same_state u t start here op = λ i. record { start = start i; at = here i; op = op i }

-- a place says its type
pub place-at : (s : State) → place s / 5 ≡ s.at
place-at s = omega (arith, op_number-below s.op)

-- and its operator
pub place-op_at : (s : State) → op_at (place s % 5) ≡ s.op
place-op_at s = let op : place s % 5 ≡ op_number s.op = omega (arith, op_number-below s.op) in ap op_at op ∙ op_at-number s.op

-- the operator with a number has that number
op_at-has : (n : ℕ) → n < 5 → op_number (op_at n) ≡ n
op_at-has zero below = refl
op_at-has (suc zero) below = refl
op_at-has (suc (suc zero)) below = refl
op_at-has (suc (suc (suc zero))) below = refl
op_at-has (suc (suc (suc (suc zero)))) below = refl
op_at-has (suc (suc (suc (suc (suc n))))) below = absurd (omega (arith, below))

-- each number is the place of its operator at its type
pub place-parts : (p : ℕ) → place_of (p / 5) (op_at (p % 5)) ≡ p
place-parts p = omega (arith, op_at-has (p % 5) (omega arith))

-- the state that has come to a place
pub state_at-place : (s : State) → state_at s.start (place s) ≡ s
state_at-place s = same_state (state_at s.start (place s)) s refl (place-at s) (place-op_at s)

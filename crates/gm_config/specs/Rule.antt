-- Rules that a value keeps, tried in order.
--   Rule                   a rule: its number, at how many indices it is tried, and whether it holds at one of them
--   first_failing test n   the first of the indices below n at which a test fails
--   first_broken rules d   the first rule that a value breaks, by its number, and the first index at which it does
--   on_value number test   a rule that is one test of the whole value
--   has_within most xs     a list has from 1 to so many elements
--   holds_at test xs i     a test of the element at a place
--   first_without test xs  the first place whose element fails a test
--   differs_at same xs i   no earlier element is the same as the one at a place
--   first_repeat same xs   the first place whose element is the same as an earlier one
use Rattle.std.specs.Prelude.{ℕ, Bool, false, not, ◌&&◌, nat_le, List, [], ◌∷◌, length, slice_get, take, Option, Some, None, find}
use Rattle.std.specs.List.{list_any, range_with_len}
use Rattle.std.specs.Option.{option_map_or}
use Rattle.serde_json.specs.Data.{Data}

-- a rule: its number, at how many indices it is tried on a value, and whether it holds at one of them
pub record Rule : Type 0 where
  pub number : ℕ
  pub tries : Data → ℕ
  pub holds : Data → ℕ → Bool

-- the first of the indices below n at which a test fails
abbrev pub first_failing : (ℕ → Bool) → ℕ → Option ℕ
first_failing test n = find (λ i. not (test i)) (range_with_len 0 n)

-- the first rule that a value breaks, by its number, and the first index at which it does: a rule is tried at all its indices before the next rule
abbrev pub first_broken : List Rule → Data → Option (ℕ × ℕ)
first_broken [] d = None
first_broken (rule ∷ rules) d = option_map_or (λ i. Some (rule.number, i)) (first_failing (rule.holds d) (rule.tries d)) (first_broken rules d)

-- a rule that is one test of the whole value
abbrev pub on_value : ℕ → (Data → Bool) → Rule
on_value number test = record { number = number; tries = λ d. 1; holds = λ d i. test d }

-- a list has from 1 to so many elements
abbrev pub has_within : {A : Type 0} → ℕ → List A → Bool
has_within most xs = nat_le 1 (length xs) && nat_le (length xs) most

-- a test of the element at a place
abbrev pub holds_at : {A : Type 0} → (A → Bool) → List A → ℕ → Bool
holds_at test xs i = option_map_or test (slice_get xs i) false

-- the first place of a list whose element fails a test
abbrev pub first_without : {A : Type 0} → (A → Bool) → List A → Option ℕ
first_without test xs = first_failing (holds_at test xs) (length xs)

-- no earlier element is the same as the one at a place
abbrev pub differs_at : {A : Type 0} → (A → A → Bool) → List A → ℕ → Bool
differs_at same xs i = option_map_or (λ x. not (list_any (same x) (take i xs))) (slice_get xs i) false

-- the first place of a list whose element is the same as an earlier one
abbrev pub first_repeat : {A : Type 0} → (A → A → Bool) → List A → Option ℕ
first_repeat same xs = first_failing (differs_at same xs) (length xs)

-- Sets of numbers, and lists of such sets.
--   NumberSet         a finite set of numbers
--   set_at rows r     the set with number r of a list, and the empty set past its end
--   Meet s t          some number is in both sets
--   IsNext s n next   next is the least number of a set from n on, or there is none
--   numbers_from s n m   the numbers of a set from n up to m, in ascending order
use Rattle.std.specs.Prelude.{◌≡◌, ℕ, ◌-◌, ◌<◌, ◌≤◌, Bool, true, false, IsTrue, Option, List, filter, slice_index_or, MatchOption}
use Rattle.std.specs.List.{range_with_len}
use Rattle.std.specs.Ordering.{nat_cmp}
use Rattle.std.specs.FinSet as set

-- a finite set of numbers
abbrev pub NumberSet : Type 0
NumberSet = set.FinSet nat_cmp

-- whether a number is in a set
abbrev pub has : NumberSet → ℕ → Bool
has s n = set.contains s n

-- the set with number r of a list, and the empty set past its end
abbrev pub set_at : List NumberSet → ℕ → NumberSet
set_at rows r = slice_index_or rows r set.empty

-- some number is in both sets
abbrev pub Meet : NumberSet → NumberSet → Type 0
Meet s t = (n : ℕ) × IsTrue (has s n) × IsTrue (has t n)

-- no number from n up to m is in a set
abbrev pub HasNone : NumberSet → ℕ → ℕ → Type 0
HasNone s n m = (k : ℕ) → n ≤ k → k < m → has s k ≡ false

-- p is the least number of a set from n on
pub record IsLeastFrom (s : NumberSet) (n p : ℕ) : Type 0 where
  pub from : n ≤ p
  pub here : has s p ≡ true
  pub before : HasNone s n p

-- the least number of a set from n on, or none where there is none
abbrev pub IsNext : NumberSet → ℕ → Option ℕ → Type 0
IsNext s n next = MatchOption next ((m : ℕ) → HasNone s n m) (IsLeastFrom s n)

-- the numbers of a set from n up to m, in ascending order
unfoldable pub numbers_from : NumberSet → ℕ → ℕ → List ℕ
numbers_from s n m = filter (has s) (range_with_len n (m - n))

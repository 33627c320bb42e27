-- Sets of types by bits, type by type.
--   HasNone set n          a set has no type below n
--   IsNextType set n t     the least type of a set, if it has one below n
--   IsWithout set t new    a set without a type
use Rattle.std.specs.Prelude.{◌≡◌, ◌≢◌, ◌<◌, ◌≤◌, ℕ, true, false, Option, MatchOption}
use Rattle.sel_algebra.specs.Table.{types_most}
use Rattle.query_draw.specs.Columns.{has}

-- a set has no type below n
abbrev pub HasNone : ℕ → ℕ → Type 0
HasNone set n = (k : ℕ) → k < n → has set k ≡ false

-- t is the least type of a set, and below n
pub record IsLeastType (set n t : ℕ) : Type 0 where
  pub within : t < n
  pub here : has set t ≡ true
  pub least : HasNone set t

-- the least type of a set, if it has one below n
abbrev pub IsNextType : ℕ → ℕ → Option ℕ → Type 0
IsNextType set n t = MatchOption t (HasNone set n) (IsLeastType set n)

-- a set without a type
pub record IsWithout (set t new : ℕ) : Type 0 where
  pub here : has new t ≡ false
  pub others : (k : ℕ) → k < types_most → k ≢ t → has new k ≡ has set k
  pub at_most : new ≤ set

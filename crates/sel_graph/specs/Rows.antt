-- Rows of places, and what so many steps from place to place lead to.
--   HasRows k Holds rows          k rows, of which row r has the numbers n with Holds r n
--   Leads Steps n p q             some n steps lead from p to q, one after another
--   Back Steps q p                a step leads from p to q: the steps taken the other way
--   row_at levels n p             the row of place p after n steps
--   HasLevels count k Steps l     for each number of steps below count, the rows of the first k places
--   HasPlaces k Holds s           a row of places: those below 5 * k with a property
use Rattle.std.specs.Prelude.{◌≡◌, ◌↔◌, ℕ, zero, suc, ◌<◌, IsTrue, List, [], length, slice_index_or}
use Rattle.bit_rows.specs.Sets.{NumberSet, has, set_at}

-- k rows, of which row r has exactly the numbers n with Holds r n
pub record HasRows (k : ℕ) (Holds : ℕ → ℕ → Type 0) (rows : List NumberSet) : Type 0 where
  pub long : length rows ≡ k
  pub marked : (r n : ℕ) → r < k → IsTrue (has (set_at rows r) n) ↔ Holds r n

-- some n steps lead from p to q, one after another
abbrev pub Leads : (ℕ → ℕ → Type 0) → ℕ → ℕ → ℕ → Type 0
Leads Steps zero p q = p ≡ q
Leads Steps (suc n) p q = (m : ℕ) × Steps p m × Leads Steps n m q

-- the steps taken the other way: from q to p where a step leads from p to q
abbrev pub Back : (ℕ → ℕ → Type 0) → ℕ → ℕ → Type 0
Back Steps q p = Steps p q

-- the rows after n steps
abbrev pub level_at : List (List NumberSet) → ℕ → List NumberSet
level_at levels n = slice_index_or levels n []

-- the row of place p after n steps
abbrev pub row_at : List (List NumberSet) → ℕ → ℕ → NumberSet
row_at levels n p = set_at (level_at levels n) p

-- a step of rows: from each place to those that its row has
abbrev pub StepsBy : List NumberSet → ℕ → ℕ → Type 0
StepsBy rows p q = IsTrue (has (set_at rows p) q)

-- for each number of steps below count, the rows of the first k places
pub record HasLevels (count k : ℕ) (Steps : ℕ → ℕ → Type 0) (levels : List (List NumberSet)) : Type 0 where
  pub long : length levels ≡ count
  pub each : (n : ℕ) → n < count → HasRows k (Leads Steps n) (level_at levels n)

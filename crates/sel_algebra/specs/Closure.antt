-- The least closure of a matrix.
--   TableAtMost x y      each entry of x is at most that of y
--   round_of m x         no path, joined with a step of m before what x has
--   IsClosedUnder m x    that is at most x
--   IsClosureOf m x      the least such matrix over the same types
--   rounds m n           what n rounds make of the matrix of no path: the join of the paths of at most n steps
--   closure_of m         that matrix: a law says that it is the closure, and another that it is the only one
use Rattle.std.specs.Prelude.{◌≡◌, ℕ, zero, suc, ◌*◌, length}
use Rattle.sel_algebra.specs.Entries.{EntryAtMost}
use Rattle.sel_algebra.specs.Table.{Table, EachPair, entry, one_of, times_of, plus_of}

-- each entry of x is at most that of y
abbrev pub TableAtMost : Table → Table → Type 0
TableAtMost x y = EachPair x.kinds (λ i j. EntryAtMost (entry x i j) (entry y i j))

-- no path, or a step of m before what x has
abbrev pub round_of : Table → Table → Table
round_of m x = plus_of (one_of m.kinds) (times_of m x)

-- no path, and a step of m before what x has, are at most x
abbrev pub IsClosedUnder : Table → Table → Type 0
IsClosedUnder m x = TableAtMost (round_of m x) x

-- the least matrix over the same types that is closed under m
pub record IsClosureOf (m x : Table) : Type 0 where
  pub kinds : x.kinds ≡ m.kinds
  pub closed : IsClosedUnder m x
  pub least : (y : Table) → y.kinds ≡ m.kinds → IsClosedUnder m y → TableAtMost x y

-- the join of the paths of at most n steps of m
unfoldable pub rounds : Table → ℕ → Table
rounds m zero = one_of m.kinds
rounds m (suc n) = round_of m (rounds m n)

-- the closure: an entry rises at most four times, so these are rounds enough
abbrev pub closure_of : Table → Table
closure_of m = rounds m (4 * (length m.kinds * length m.kinds))

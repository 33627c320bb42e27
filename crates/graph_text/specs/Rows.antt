-- Rows of numbers, such as the rows of a query.
--   row_values r          the numbers of a row
--   is_row count r        a row of so many numbers, with 0 after them
--   are_rows rows         all have as many numbers as the first
--   IsRising rows         each comes before all later ones
use Rattle.std.specs.Prelude.{ℕ, Bool, true, ◌==◌, ◌&&◌, nat_le, List, [], ◌∷◌, length, take, drop, map}
use Rattle.std.specs.List.{list_all}
use Rattle.std.specs.List.Sorted.{IsStrictlySortedBy}
use Rattle.std.specs.Ordering.{nat_cmp}
use Rattle.std.specs.Cmp.Lexicographic.{slice_cmp}
use Rattle.graph_text.specs.declared.rows.Row.{Row}

-- a row has at most so many numbers
abbrev pub row_most : ℕ
row_most = 4

-- as many of its places as it counts
abbrev pub row_values : Row → List ℕ
row_values r = take r.count r.values

-- it counts so many, no more than there are places, and the places that it doesn't count have 0
abbrev pub is_row : ℕ → Row → Bool
is_row count r = (r.count == count) && nat_le r.count row_most && (length r.values == row_most) && list_all (λ n. n == 0) (drop r.count r.values)

-- rows of one count
abbrev pub are_rows : List Row → Bool
are_rows [] = true
are_rows (r ∷ rows) = list_all (is_row r.count) (r ∷ rows)

-- the numbers of each row
abbrev pub values_of : List Row → List (List ℕ)
values_of rows = map row_values rows

-- the first number in which two rows differ decides, and no row stands twice
abbrev pub IsRising : List (List ℕ) → Type 0
IsRising rows = IsStrictlySortedBy (slice_cmp nat_cmp) rows

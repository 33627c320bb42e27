-- What a list of rows ends as, where one of its rows is lent.
--   lends_row W grid r row     once the borrow ends, row r is as it was left
use Rattle.std.specs.Prelude.{ℕ, List, slice_set}
use Rattle.std.specs.Borrow.{Lends, Fml, RattleType, MutBor}
use Rattle.bit_rows.specs.Sets.{NumberSet}
use Rattle.bit_rows.specs.contracts.bit_row.BitRow.{the_row as bit_row}
use Rattle.bit_rows.specs.contracts.grid.Grid.{the_row}

-- once the borrow ends, row r is as it was left
abbrev pub lends_row : RattleType → MutBor (List NumberSet) → ℕ → MutBor NumberSet → Fml
lends_row W grid r row = Lends (the_row W) (bit_row W) grid row (slice_set grid.now r)

use Rattle.std.proofs.Common.{◌≡◌, ◌<◌, ℕ}
use Rattle.query_draw.specs.Columns.{column_at}
use Rattle.query_draw.proofs.column_list.Columns.has_columns_of.Given as goal

abbrev pub invariant-loop-t : goal.invariant-loop-t
invariant-loop-t l = (j : ℕ) → j < l.t → column_at l.self j ≡ column_at l.other j

use Rattle.std.proofs.Common.{length}
use Rattle.sel_algebra.specs.Table.{one_at}
use Rattle.query_draw.specs.Columns.{FirstColumns}
use Rattle.query_draw.proofs.column_list.Columns.enter_equal.Given as goal

abbrev pub invariant-loop-t : goal.invariant-loop-t
invariant-loop-t l = FirstColumns (length l.fn.self) l.t l.self one_at

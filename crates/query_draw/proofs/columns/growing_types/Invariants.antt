use Rattle.query_draw.proofs.ColumnLemmas.{GrowingBelow}
use Rattle.query_draw.proofs.columns.growing_types.Given as goal

abbrev pub invariant-loop-t : goal.invariant-loop-t
invariant-loop-t l = GrowingBelow l.kinds l.growing l.t

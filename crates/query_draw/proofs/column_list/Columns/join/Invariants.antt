use Rattle.query_draw.specs.Columns.{AreJoined}
use Rattle.query_draw.proofs.column_list.Columns.join.Given as goal

abbrev pub invariant-loop-t : goal.invariant-loop-t
invariant-loop-t l = AreJoined l.fn.self l.other l.self l.t

use Rattle.std.proofs.Common.{take}
use Rattle.sql_emit.specs.Reading.{occurrences_from}
use Rattle.sql_emit.specs.Writing.{AreEnds}
use Rattle.sql_emit.proofs.columns.ends_of.Given as goal

abbrev pub invariant-loop-i : goal.invariant-loop-i
invariant-loop-i l = AreEnds (occurrences_from 0 (take l.i l.links)) l.ends

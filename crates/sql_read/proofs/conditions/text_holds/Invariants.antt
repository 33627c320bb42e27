use Rattle.std.proofs.Common.{◌-◌, length}
use Rattle.sql_read.specs.Parsed.{kept_of}
use Rattle.sql_read.proofs.ConditionLemmas.{SoFar}
use Rattle.sql_read.proofs.conditions.text_holds.Given as goal

abbrev pub invariant-loop-i : goal.invariant-loop-i
invariant-loop-i l = SoFar l.scope (kept_of l.lists) l.last l.i

abbrev pub decreases-loop-i : goal.decreases-loop-i
decreases-loop-i l = length l.lists.tables.items - l.i

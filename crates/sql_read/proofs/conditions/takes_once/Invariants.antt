use Rattle.std.proofs.Common.{◌≡◌, ◌≤◌, if◌then◌else◌, map, drop, length}
use Rattle.sql_read.specs.View.{source_view}
use Rattle.sql_read.specs.Conditions.{times_taken}
use Rattle.sql_read.proofs.conditions.takes_once.Given as goal

abbrev pub invariant-loop-i : goal.invariant-loop-i
invariant-loop-i l = record {
  small : l.i ≤ length l.froms;
  times : times_taken l.name (map source_view (drop l.i l.froms)) ≡ (if l.taken then 1 else 0);
}

abbrev pub decreases-loop-i : goal.decreases-loop-i
decreases-loop-i l = l.i

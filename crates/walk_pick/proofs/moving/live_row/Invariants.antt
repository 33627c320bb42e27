use Rattle.std.proofs.Common.{◌≡◌, ℕ, ◌++◌}
use Rattle.std.specs.List.{list_any}
use Rattle.bit_rows.specs.Sets.{has, numbers_from}
use Rattle.walk_pick.specs.LiveRows.{live_step}
use Rattle.walk_pick.proofs.moving.live_row.Given as goal

abbrev pub invariant-loop-place : goal.invariant-loop-place
invariant-loop-place g l = record {
  split : numbers_from l.initial.place-iterator.row.now 0 320 ≡ l.yielded ++ numbers_from l.place-iterator.row.now l.place-iterator.from 320;
  joined : (p : ℕ) → has l.live p ≡ list_any (live_step (g.T.MoveTest.passes l.test) l.star p) l.yielded;
}

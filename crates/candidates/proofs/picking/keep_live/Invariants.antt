use Rattle.std.proofs.Common.{◌≡◌, ◌≤◌, take}
use Rattle.candidates.specs.Picked.{numbers_that}
use Rattle.candidates.proofs.picking.keep_live.Given as goal

abbrev pub invariant-loop-i : goal.invariant-loop-i
invariant-loop-i g l = record {
  live : take l.count l.numbers ≡ numbers_that (g.C.Candidates.live l.candidates) l.i;
  few : l.count ≤ l.i;
}

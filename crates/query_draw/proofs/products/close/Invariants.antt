use Rattle.std.proofs.Common.{◌≡◌, length}
use Rattle.query_draw.proofs.ProductLemmas.{AreRounds}
use Rattle.query_draw.proofs.products.close.Given as goal

abbrev pub invariant-loop : goal.invariant-loop
invariant-loop l = record {
  whole : length l.closure ≡ length l.kinds;
  next : length l.next ≡ length l.kinds;
  rounds : AreRounds l.kinds l.step l.closure l.counter;
}

use Rattle.std.proofs.Common.{◌≡◌, length}
use Rattle.sel_algebra.specs.Table.{one_at}
use Rattle.query_draw.proofs.ProductLemmas.{FirstPaths}
use Rattle.query_draw.proofs.products.make_round.Given as goal

abbrev pub invariant-loop-to : goal.invariant-loop-to
invariant-loop-to l = record {
  whole : length l.next ≡ length l.kinds;
  paths : FirstPaths one_at l.kinds l.step l.last l.next l.to;
}

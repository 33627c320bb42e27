use Rattle.std.proofs.Common.{◌≡◌, length}
use Rattle.query_draw.proofs.AlongLemmas.{Follows}
use Rattle.query_draw.proofs.along.follow_symbol.Given as goal

abbrev pub invariant-loop-edge : goal.invariant-loop-edge
invariant-loop-edge l = record {
  whole : length l.product ≡ length l.schema.kinds;
  follows : Follows l.schema l.symbol.back l.edges l.matrix l.product l.edge-index;
}

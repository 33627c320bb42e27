use Rattle.std.proofs.Common.{◌≡◌, length}
use Rattle.query_draw.specs.Columns.{no_entry}
use Rattle.query_draw.proofs.ProductLemmas.{FirstPaths}
use Rattle.query_draw.proofs.products.multiply.Given as goal

abbrev pub invariant-loop-to : goal.invariant-loop-to
invariant-loop-to l = record {
  whole : length l.product ≡ length l.kinds;
  paths : FirstPaths no_entry l.kinds l.first l.second l.product l.to;
}

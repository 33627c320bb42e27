use Rattle.std.proofs.Common.{◌≡◌, filter}
use Rattle.std.specs.List.{range_with_len}
use Rattle.query_draw.specs.Columns.{has_label}
use Rattle.query_draw.proofs.along.labelled.Given as goal

abbrev pub invariant-loop-edge : goal.invariant-loop-edge
invariant-loop-edge l = l.edges.items ≡ filter (has_label l.schema.edges l.label) (range_with_len 0 l.edge)

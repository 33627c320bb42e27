use Rattle.std.proofs.Common.{◌≡◌, map}
use Rattle.std.specs.List.{range_with_len}
use Rattle.query_draw.specs.Columns.{labelled}
use Rattle.query_draw.proofs.along.edge_lists.Given as goal

abbrev pub invariant-loop-label : goal.invariant-loop-label
invariant-loop-label l = l.lists.items ≡ map (labelled l.schema.edges) (range_with_len 0 l.label)

use Rattle.std.proofs.Common.{◌≡◌, map}
use Rattle.std.specs.List.{range_with_len}
use Rattle.sel_graph.specs.Steps.{next_from}
use Rattle.sel_graph.proofs.next_places.kind_nexts.Given as goal

abbrev pub invariant-loop-place : goal.invariant-loop-place
invariant-loop-place l = l.nexts.items ≡ map (next_from l.schema l.kind) (range_with_len 0 l.place)

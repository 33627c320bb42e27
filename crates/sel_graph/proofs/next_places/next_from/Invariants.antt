use Rattle.std.proofs.Common.{◌≡◌, ◌/◌, map, take}
use Rattle.schema_graph.specs.Symbols.{symbols_of}
use Rattle.sel_graph.specs.Steps.{symbol_place}
use Rattle.sel_graph.proofs.next_places.next_from.Given as goal

abbrev pub invariant-loop-n : goal.invariant-loop-n
invariant-loop-n l = l.places.items ≡ map (symbol_place l.schema l.kind l.place) (take l.n (symbols_of l.schema.edges (l.place / 5)))

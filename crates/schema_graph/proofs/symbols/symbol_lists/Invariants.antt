use Rattle.std.proofs.Common.{◌≡◌, map}
use Rattle.std.specs.List.{range_with_len}
use Rattle.schema_graph.specs.Symbols.{symbols_of}
use Rattle.schema_graph.proofs.symbols.symbol_lists.Given as goal

abbrev pub invariant-loop-start : goal.invariant-loop-start
invariant-loop-start l = l.lists.items ≡ map (symbols_of l.edges) (range_with_len 0 l.start)

use Rattle.std.proofs.Common.{◌≡◌, filter}
use Rattle.schema_graph.specs.Symbols.{first_symbols, starts_at}
use Rattle.schema_graph.proofs.symbols.symbols_of.Given as goal

abbrev pub invariant-loop-edge : goal.invariant-loop-edge
invariant-loop-edge l = l.symbols.items ≡ filter (starts_at l.edges l.start) (first_symbols l.edge)

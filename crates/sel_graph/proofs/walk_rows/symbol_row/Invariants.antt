use Rattle.std.proofs.Common.{◌≡◌, ℕ}
use Rattle.std.specs.List.{list_any}
use Rattle.bit_rows.specs.Sets.{has}
use Rattle.schema_graph.specs.Symbols.{first_symbols}
use Rattle.sel_graph.specs.Steps.{symbol_steps}
use Rattle.sel_graph.proofs.walk_rows.symbol_row.Given as goal

abbrev pub invariant-loop-edge : goal.invariant-loop-edge
invariant-loop-edge l = (q : ℕ) → has l.row q ≡ list_any (symbol_steps l.schema l.kind l.place q) (first_symbols l.edge)

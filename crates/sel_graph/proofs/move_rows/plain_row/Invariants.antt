use Rattle.std.proofs.Common.{◌≡◌, ℕ, ◌++◌}
use Rattle.std.specs.List.{list_any}
use Rattle.bit_rows.specs.Sets.{has, numbers_from}
use Rattle.sel_graph.specs.Steps.{plain_steps}
use Rattle.sel_graph.proofs.move_rows.plain_row.Given as goal

abbrev pub invariant-loop-number : goal.invariant-loop-number
invariant-loop-number l = record {
  split : numbers_from l.initial.number-iterator.row.now 0 320 ≡ l.yielded ++ numbers_from l.number-iterator.row.now l.number-iterator.from 320;
  joined : (q : ℕ) → has l.row q ≡ list_any (plain_steps l.moves l.kind l.place q) l.yielded;
}

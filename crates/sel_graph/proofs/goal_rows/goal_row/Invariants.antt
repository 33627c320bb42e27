use Rattle.std.proofs.Common.{◌≡◌, ℕ, nat_lt, ◌&&◌}
use Rattle.bit_rows.specs.Sets.{has}
use Rattle.sel_graph.specs.Numbers.{state_at}
use Rattle.sel_graph.specs.Tests.{meets}
use Rattle.sel_graph.proofs.goal_rows.goal_row.Given as goal

abbrev pub invariant-loop-place : goal.invariant-loop-place
invariant-loop-place l = (p : ℕ) → has l.row p ≡ (nat_lt p l.place && meets l.moves l.goal (state_at l.start p))

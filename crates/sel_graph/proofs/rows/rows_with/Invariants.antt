use Rattle.std.proofs.Common.{◌≡◌, ℕ, nat_lt, ◌&&◌}
use Rattle.bit_rows.specs.Sets.{has, set_at}
use Rattle.sel_graph.proofs.rows.rows_with.Given as goal

abbrev pub invariant-loop-p : goal.invariant-loop-p
invariant-loop-p l = (p : ℕ) → has l.having p ≡ (nat_lt p l.p && has (set_at l.rows p) l.fn.q)

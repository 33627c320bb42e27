use Rattle.std.proofs.Common.{◌≡◌, ℕ, ◌+◌, ◌-◌, ◌≤◌}
use Rattle.std.specs.List.{list_any, range_with_len}
use Rattle.bit_rows.specs.Sets.{has}
use Rattle.sel_graph.specs.States.{begun}
use Rattle.sel_graph.specs.Tests.{can_reach}
use Rattle.sel_graph.proofs.word_rows.word_row.Given as goal

abbrev pub invariant-loop-len : goal.invariant-loop-len
invariant-loop-len l = record {
  within : l.len - l.fn.lengths.least ≤ l.fn.lengths.most + 1 - l.fn.lengths.least;
  joined : (p : ℕ) → has l.row p ≡ list_any (λ n. can_reach l.schema n (begun l.t) p) (range_with_len l.fn.lengths.least (l.len - l.fn.lengths.least));
}

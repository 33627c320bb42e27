use Rattle.std.proofs.Common.{◌≡◌, ℕ, ◌++◌}
use Rattle.std.specs.List.{list_any}
use Rattle.bit_rows.specs.Sets.{has, set_at, numbers_from}
use Rattle.sel_graph.proofs.rows.union_of.Given as goal

abbrev pub invariant-loop-m : goal.invariant-loop-m
invariant-loop-m l = record {
  split : numbers_from l.members 0 320 ≡ l.yielded ++ numbers_from l.m-iterator.row.now l.m-iterator.from 320;
  joined : (q : ℕ) → has l.union q ≡ list_any (λ m. has (set_at l.rows m) q) l.yielded;
}

use Rattle.std.proofs.Common.{◌≡◌, ◌++◌, take}
use Rattle.summary_text.specs.Summary.{constraint_lines}
use Rattle.summary_text.proofs.writing.write_constraints.Given as goal

abbrev pub invariant-loop-c : goal.invariant-loop-c
invariant-loop-c l = l.out.items ≡ l.fn.out.items ++ constraint_lines 0 (take l.c l.counts)

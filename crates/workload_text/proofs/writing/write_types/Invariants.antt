use Rattle.std.proofs.Common.{◌≡◌, ◌++◌, take}
use Rattle.workload_text.specs.Lines.{lines_text, type_lines}
use Rattle.workload_text.proofs.writing.write_types.Given as goal

abbrev pub invariant-loop-t : goal.invariant-loop-t
invariant-loop-t l = l.out.items ≡ l.fn.out.items ++ lines_text (type_lines (take l.t l.names) (take l.t l.kinds))

use Rattle.std.proofs.Common.{◌≡◌, ◌++◌, take}
use Rattle.workload_text.specs.Lines.{lines_text, label_lines}
use Rattle.workload_text.proofs.writing.write_labels.Given as goal

abbrev pub invariant-loop-name : goal.invariant-loop-name
invariant-loop-name l = l.out.items ≡ l.fn.out.items ++ lines_text (label_lines (take l.name-index l.names))

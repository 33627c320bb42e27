use Rattle.std.proofs.Common.{◌≡◌, ◌++◌, map, take}
use Rattle.workload_text.specs.Lines.{lines_text, edge_line}
use Rattle.workload_text.proofs.writing.write_edges.Given as goal

abbrev pub invariant-loop-e : goal.invariant-loop-e
invariant-loop-e l = l.out.items ≡ l.fn.out.items ++ lines_text (map edge_line (take l.e l.schema.edges))

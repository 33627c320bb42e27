use Rattle.std.proofs.Common.{◌≡◌, ◌++◌, take}
use Rattle.workload_text.specs.Lines.{lines_text}
use Rattle.workload_text.specs.Writing.{rules_lines}
use Rattle.workload_text.proofs.writing.write_rules.Given as goal

abbrev pub invariant-loop-rule : goal.invariant-loop-rule
invariant-loop-rule l = l.out.items ≡ l.fn.out.items ++ lines_text (rules_lines l.query (take l.rule-index l.rules))

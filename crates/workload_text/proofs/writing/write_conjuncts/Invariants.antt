use Rattle.std.proofs.Common.{◌≡◌, ◌++◌, take}
use Rattle.workload_text.specs.Lines.{lines_text}
use Rattle.workload_text.specs.Writing.{conjuncts_lines}
use Rattle.workload_text.proofs.writing.write_conjuncts.Given as goal

abbrev pub invariant-loop-conjunct : goal.invariant-loop-conjunct
invariant-loop-conjunct l = l.out.items ≡ l.fn.out.items ++ lines_text (conjuncts_lines l.query (take l.conjunct-index l.conjuncts))

use Rattle.std.proofs.Common.{◌≡◌, ◌++◌, map, take}
use Rattle.std.specs.List.{join_with_byte}
use Rattle.workload_text.specs.Lines.{written, symbol_word}
use Rattle.workload_text.proofs.writing.write_path.Given as goal

abbrev pub invariant-loop-i : goal.invariant-loop-i
invariant-loop-i l = l.out.items ≡ l.fn.out.items ++ join_with_byte 46 (map symbol_word (map written (take l.i l.symbols)))

use Rattle.std.proofs.Common.{◌≡◌, ◌++◌, map, take}
use Rattle.std.specs.List.{join_with_byte}
use Rattle.query_terms.specs.Lists.{words_in}
use Rattle.workload_text.specs.Lines.{written, path_word}
use Rattle.workload_text.proofs.writing.write_union.Given as goal

abbrev pub invariant-loop-i : goal.invariant-loop-i
invariant-loop-i l = l.out.items ≡ l.fn.out.items ++ join_with_byte 43 (map path_word (map (map written) (words_in l.symbols (take l.i l.words))))

use Rattle.std.proofs.Common.{◌≡◌, ◌++◌, take, codes, map, List}
use Rattle.std.specs.List.{join_by}
use Rattle.sql_emit.specs.Reading.{Occurrence, head_column}
use Rattle.sql_emit.specs.Text.{col_text}
use Rattle.sql_emit.specs.Writing.{AreEnds}
use Rattle.sql_emit.proofs.rules.put_heads.Given as goal

abbrev pub invariant-loop-i : goal.invariant-loop-i
invariant-loop-i l =
    (os : List Occurrence) → AreEnds os l.ends → l.out.items ≡ l.fn.out.items ++ join_by col_text (codes ", ") (map (head_column os) (take l.i l.heads))

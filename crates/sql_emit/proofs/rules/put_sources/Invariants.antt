use Rattle.std.proofs.Common.{◌≡◌, ◌++◌, take, codes}
use Rattle.std.specs.List.{join_by}
use Rattle.sql_emit.specs.Reading.{sources_from}
use Rattle.sql_emit.specs.Text.{source_text}
use Rattle.sql_emit.proofs.rules.put_sources.Given as goal

abbrev pub invariant-loop-i : goal.invariant-loop-i
invariant-loop-i l = l.out.items ≡ l.fn.out.items ++ join_by source_text (codes ", ") (sources_from 0 (take l.i l.links))

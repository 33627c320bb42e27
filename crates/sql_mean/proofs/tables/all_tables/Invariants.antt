use Rattle.std.proofs.Common.{◌∷◌, [], take}
use Rattle.sql_read.specs.Conditions.{edge_header, headers_after}
use Rattle.sql_read.specs.Whole.{reading_of}
use Rattle.sql_mean.specs.Rows.{AtFirst}
use Rattle.sql_mean.specs.Tables.{After}
use Rattle.sql_mean.specs.Evaluation.{KnownAs}
use Rattle.sql_mean.proofs.tables.all_tables.Given as goal

abbrev pub invariant-loop-i : goal.invariant-loop-i
invariant-loop-i l =
    KnownAs l.known.items (headers_after (edge_header ∷ []) (take l.i (reading_of l.query).tables)) (After (edge_header ∷ []) (AtFirst l.graph) (take l.i (reading_of l.query).tables))

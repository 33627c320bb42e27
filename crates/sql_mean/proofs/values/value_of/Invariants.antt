use Rattle.std.proofs.Common.{◌≡◌, map, length}
use Rattle.sql_read.specs.View.{col_view, source_view}
use Rattle.sql_mean.specs.Selects.{value_of}
use Rattle.sql_mean.specs.Evaluation.{headers_in, row_view}
use Rattle.sql_mean.proofs.values.value_of.Given as goal

abbrev pub invariant-loop-froms : goal.invariant-loop-froms
invariant-loop-froms l =
    value_of (headers_in l.known) (map source_view l.froms) (map row_view l.product) (col_view l.col)
    ≡ value_of (headers_in l.known) (map source_view l.fn.froms) (map row_view l.fn.product) (col_view l.col)

abbrev pub decreases-loop-froms : goal.decreases-loop-froms
decreases-loop-froms l = length l.froms

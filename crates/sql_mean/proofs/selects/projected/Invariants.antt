use Rattle.std.proofs.Common.{◌≡◌, map, take}
use Rattle.sql_read.specs.View.{col_view, source_view}
use Rattle.sql_mean.specs.Selects.{value_of}
use Rattle.sql_mean.specs.Evaluation.{headers_in, row_view}
use Rattle.sql_mean.proofs.selects.projected.Given as goal

abbrev pub invariant-loop-col : goal.invariant-loop-col
invariant-loop-col l =
    l.numbers.items ≡ map (value_of (headers_in l.known) (map source_view l.froms) (map row_view l.product)) (map col_view (take l.col-index l.columns))

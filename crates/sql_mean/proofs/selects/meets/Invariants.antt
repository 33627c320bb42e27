use Rattle.std.proofs.Common.{◌≡◌, map, length}
use Rattle.std.specs.List.{list_all}
use Rattle.sql_read.specs.View.{equation_view, source_view}
use Rattle.sql_mean.specs.Evaluation.{headers_in, row_view, is_met}
use Rattle.sql_mean.proofs.selects.meets.Given as goal

abbrev pub invariant-loop-rest : goal.invariant-loop-rest
invariant-loop-rest l =
    list_all (is_met (headers_in l.known) (map source_view l.froms) (map row_view l.product)) (map equation_view l.rest)
    ≡ list_all (is_met (headers_in l.known) (map source_view l.froms) (map row_view l.product)) (map equation_view l.equations)

abbrev pub decreases-loop-rest : goal.decreases-loop-rest
decreases-loop-rest l = length l.rest

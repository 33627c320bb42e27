use Rattle.std.proofs.Common.{◌≡◌, map, length}
use Rattle.std.specs.List.{list_any}
use Rattle.sql_read.specs.Kept.{sources_in}
use Rattle.sql_read.specs.View.{source_view}
use Rattle.sql_mean.specs.Tables.{is_of}
use Rattle.sql_mean.proofs.tables.takes_from.Given as goal

abbrev pub invariant-loop-rest : goal.invariant-loop-rest
invariant-loop-rest l = list_any (is_of l.name) (map source_view l.rest) ≡ list_any (is_of l.name) (sources_in l.fn.select.tables l.query.kept)

abbrev pub decreases-loop-rest : goal.decreases-loop-rest
decreases-loop-rest l = length l.rest

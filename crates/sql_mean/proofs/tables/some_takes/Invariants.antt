use Rattle.std.proofs.Common.{◌≡◌, map, length}
use Rattle.std.specs.List.{list_any}
use Rattle.sql_read.specs.Kept.{AllFit, QueryFits, query_in}
use Rattle.sql_mean.specs.Tables.{takes_from}
use Rattle.sql_mean.proofs.tables.some_takes.Given as goal

abbrev pub invariant-loop-rest : goal.invariant-loop-rest
invariant-loop-rest l = record {
  fit : AllFit (λ s. QueryFits s l.query.kept) l.rest;
  same : list_any (takes_from l.name) (map (λ s. query_in s l.query.kept) l.rest) ≡ list_any (takes_from l.name) (map (λ s. query_in s l.query.kept) l.selects);
}

abbrev pub decreases-loop-rest : goal.decreases-loop-rest
decreases-loop-rest l = length l.rest

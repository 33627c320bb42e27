use Rattle.sparql_mean.proofs.JoinLemmas.{query_says}
use Rattle.sparql_mean.proofs.queries.sparql_rows.Goals as goal

pub returns-clause-rows : goal.returns-clause-rows
returns-clause-rows c = λ asked is row.
    query_says _ _ c.in_ok-tables.ensures.0 c.in_ok-tables.ensures.1 _ _ _ asked _ _ is c.in_ok-tables.ensures.2 c.deref.ensures.value c.in_ok-rows.ensures.values row (c.sorted.ensures.rows row)

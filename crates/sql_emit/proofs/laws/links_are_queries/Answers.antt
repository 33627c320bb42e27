use Rattle.sql_emit.proofs.LinkLemmas.{links_are_queries}
use Rattle.sql_emit.proofs.laws.links_are_queries.Goals as goal

pub returns : goal.returns
returns c = links_are_queries

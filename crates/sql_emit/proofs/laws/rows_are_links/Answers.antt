use Rattle.sql_emit.proofs.RuleLemmas.{rows_are_links}
use Rattle.sql_emit.proofs.laws.rows_are_links.Goals as goal

pub returns : goal.returns
returns c = rows_are_links

use Rattle.sql_emit.proofs.TableLemmas.{tables_are_terms}
use Rattle.sql_emit.proofs.laws.tables_are_terms.Goals as goal

pub returns : goal.returns
returns c = tables_are_terms

use Rattle.sparql_emit.proofs.RowLemmas.{text_keeps_rows}
use Rattle.sparql_emit.proofs.laws.text_keeps_rows.Goals as goal

pub returns : goal.returns
returns c = text_keeps_rows

use Rattle.graph_text.proofs.RowLemmas.{row_of}
use Rattle.graph_text.proofs.rows.Row.of.Goals as goal

pub returns-clause-is_row : goal.returns-clause-is_row
returns-clause-is_row c = rw c.copy_from_slice.ensures.after (row_of c.args.numbers.now c.requires)

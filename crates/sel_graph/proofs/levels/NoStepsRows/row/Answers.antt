use Rattle.sel_graph.proofs.RowLemmas.{row_alone}
use Rattle.sel_graph.proofs.levels.NoStepsRows.row.Goals as goal

pub returns : goal.returns
returns c = λ n. rw (c.set.ensures, c.empty-row.ensures) (row_alone c.args.r n)

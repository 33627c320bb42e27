use Rattle.sel_graph.proofs.RowLemmas.{AreFilled}
use Rattle.sel_graph.proofs.rows.grid_of.Given as goal

abbrev pub invariant-loop-r : goal.invariant-loop-r
invariant-loop-r g l = AreFilled (g.R.Rows.count l.rows) (g.R.Rows.holds l.rows) l.grid l.r

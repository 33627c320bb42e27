use Rattle.std.proofs.lemmas.Result.{IfOk-weaker}
use Rattle.sel_graph.specs.Rows.{HasLevels}
use Rattle.sel_graph.proofs.RowLemmas.{HasLevels-same}
use Rattle.sel_graph.proofs.levels.levels_from.Goals as goal

pub returns : goal.returns
returns g c =
    let rows = c.args.rows.now in
    IfOk-weaker c.all_levels.result _ (λ levels. HasLevels c.args.count (g.R.Rows.count rows) (g.R.Rows.holds rows) levels.items)
    (λ levels l. HasLevels-same c.args.count (g.R.Rows.count rows) levels.items (λ p q below. c.in_ok-steps.ensures.marked p q below) c.requires.within l) (rw c.count.ensures at c.all_levels.ensures)

use Rattle.std.proofs.Common.{arith}
use Rattle.std.proofs.lemmas.Result.{IfOk-weaker}
use Rattle.sel_graph.specs.Rows.{Back, HasLevels}
use Rattle.sel_graph.proofs.RowLemmas.{HasLevels-same, steps_back, StepsBy-starts}
use Rattle.sel_graph.proofs.levels.levels_back.Goals as goal

pub levels_from-requires-clause-within : goal.levels_from-requires-clause-within
levels_from-requires-clause-within g c = λ q p below step. omega (arith, StepsBy-starts c.in_ok-steps.steps p q step, c.in_ok-steps.ensures.long, c.count.ensures)

pub returns : goal.returns
returns g c =
    let rows = c.args.rows.now in
    IfOk-weaker c.levels_from.result _ (λ levels. HasLevels c.args.count (g.R.Rows.count rows) (Back (g.R.Rows.holds rows)) levels.items)
    (λ levels l. HasLevels-same c.args.count (g.R.Rows.count rows) levels.items
    (λ q p below. steps_back (g.R.Rows.count rows) c.in_ok-steps.steps c.in_ok-steps.ensures c.requires.within q p) (λ q p below step. c.requires.within p q step) l)
    (rw c.count.ensures at c.levels_from.ensures)

use Rattle.sel_graph.specs.Rows.{StepsBy, HasLevels}
use Rattle.sel_graph.proofs.levels.all_levels.Given as goal

abbrev pub invariant-loop-n : goal.invariant-loop-n
invariant-loop-n l = HasLevels l.n l.size (StepsBy l.steps) l.levels.items

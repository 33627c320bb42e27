use Rattle.sel_graph.proofs.GoalLemmas.{feasible_tested}
use Rattle.sel_graph.proofs.goal_rows.feasible.Goals as goal

pub returns : goal.returns
returns c =
    feasible_tested c.args.moves.now c.requires.reach c.args.goals.now c.requires.goals c.args.count c.args.state c.args.goal c.requires.start c.requires.at c.requires.second
    c.places_after.result.now c.places_after.ensures c.meets.result (rw (c.row-met.ensures, c.goal_number.ensures) at c.meets.ensures)

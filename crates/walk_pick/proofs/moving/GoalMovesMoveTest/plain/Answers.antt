use Rattle.std.proofs.Common.{sym, ◌∙◌}
use Rattle.std.proofs.lemmas.Bool.{and_parts}
use Rattle.sel_graph.specs.Moves.{moved}
use Rattle.sel_graph.specs.Numbers.{move_of}
use Rattle.sel_graph.specs.Tests.{is_move, feasible}
use Rattle.sel_graph.proofs.StepLemmas.{leads_inside}
use Rattle.walk_pick.proofs.PickLemmas.{move_leads}
use Rattle.walk_pick.proofs.moving.GoalMovesMoveTest.plain.Goals as goal

pub returns-clause-within : goal.returns-clause-within
returns-clause-within c = let m = c.args.self.now in λ p here. leads_inside m.reach.now m.known m.at.at p (sym (c.plain_moves.ensures p) ∙ here)

pub returns-clause-all : goal.returns-clause-all
returns-clause-all c = let m = c.args.self.now in let r = m.reach.now in λ star p passes. c.plain_moves.ensures p ∙ move_leads r m.at.at star p ((and_parts (is_move r m.at.at (move_of star p)) (feasible r m.goal m.left (moved r.schema m.at (move_of star p))) passes).0)

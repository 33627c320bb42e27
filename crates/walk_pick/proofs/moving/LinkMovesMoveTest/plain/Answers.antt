use Rattle.std.proofs.Common.{sym, ◌∙◌}
use Rattle.std.proofs.lemmas.Bool.{and_parts}
use Rattle.sel_graph.specs.Numbers.{move_of}
use Rattle.sel_graph.specs.Tests.{is_move, joins}
use Rattle.sel_graph.proofs.StepLemmas.{leads_inside}
use Rattle.walk_pick.proofs.PickLemmas.{move_leads}
use Rattle.walk_pick.proofs.moving.LinkMovesMoveTest.plain.Goals as goal

pub returns-clause-within : goal.returns-clause-within
returns-clause-within c = let m = c.args.self.now in λ p here. leads_inside m.reach.now m.known m.at p (sym (c.plain_moves.ensures p) ∙ here)

pub returns-clause-all : goal.returns-clause-all
returns-clause-all c = let m = c.args.self.now in let r = m.reach.now in λ star p passes. c.plain_moves.ensures p ∙ move_leads r m.at star p ((and_parts (is_move r m.at (move_of star p)) (joins r m.left (move_of star p).to m.end) passes).0)

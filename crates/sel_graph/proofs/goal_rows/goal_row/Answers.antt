use Rattle.std.proofs.Common.{◌==◌, ◌||◌, ◌&&◌, ap, ◌∙◌, arith}
use Rattle.std.proofs.lemmas.Bool.{le-ltb}
use Rattle.bit_rows.proofs.SetLemmas.{has-empty}
use Rattle.sel_graph.specs.Numbers.{state_at}
use Rattle.sel_graph.specs.Tests.{meets}
use Rattle.sel_graph.proofs.RowLemmas.{one_place_more}
use Rattle.sel_graph.proofs.goal_rows.goal_row.Goals as goal

pub loop-place-init : goal.loop-place-init
loop-place-init c = λ p. rw (c.empty-row.ensures, le-ltb p 0 (omega arith)) (has-empty p)

pub loop-place-preserved : goal.loop-place-preserved
loop-place-preserved c = λ p.
    c.add_place.ensures p
    ∙ (ap (λ b. b || (meets c.args.moves.now c.args.goal (state_at c.args.start c.loop-place.place) && (c.loop-place.place == p))) (c.loop-place.invariant p)
    ∙ one_place_more (λ x. meets c.args.moves.now c.args.goal (state_at c.args.start x)) c.loop-place.place p)

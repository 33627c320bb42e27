use Rattle.std.proofs.Common.{◌≡◌, ℕ, ◌-◌, [], ◌∙◌, subst, arith}
use Rattle.sel_graph.specs.Rows.{StepsBy, HasRows, level_at}
use Rattle.sel_graph.proofs.RowLemmas.{HasLevels-more, same_default}
use Rattle.sel_graph.proofs.levels.all_levels.Goals as goal

pub loop-n-preserved : goal.loop-n-preserved
loop-n-preserved c =
    let steps = c.args.steps.now in
    let levels = c.loop-n.levels.items in
    let n = c.loop-n.n in
    let last : c.index-last.result.now ≡ level_at levels (n - 1) = c.index-last.ensures ∙ same_default levels (n - 1) c.index-last.result.now [] (omega (arith, c.loop-n.invariant.long)) in
    let next = subst (λ rows. HasRows c.args.size (λ p q. (m : ℕ) × StepsBy steps p m × StepsBy rows m q) c.in_ok-next.next) last c.in_ok-next.ensures in
    rw c.in_ok-push-2.ensures.items (HasLevels-more c.args.size (StepsBy steps) levels c.in_ok-next.next n c.requires.within c.loop-n.auto.n c.loop-n.invariant next)

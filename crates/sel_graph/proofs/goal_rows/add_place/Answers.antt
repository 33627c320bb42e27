use Rattle.std.proofs.Common.{◌≡◌, ◌==◌, ◌||◌, ◌&&◌, true, false, ap, sym, ◌∙◌}
use Rattle.std.proofs.Math.Bool.{or-false}
use Rattle.bit_rows.specs.Sets.{has}
use Rattle.bit_rows.proofs.SetLemmas.{has-insert}
use Rattle.sel_graph.specs.Numbers.{state_at}
use Rattle.sel_graph.specs.Tests.{meets}
use Rattle.sel_graph.proofs.goal_rows.add_place.Goals as goal

pub returns-then-meets : goal.returns-then-meets
returns-then-meets c = λ p.
    let met : true ≡ meets c.args.moves.now c.args.goal (state_at c.args.start c.args.place) = rw c.state_at.ensures at c.if-meets.ensures in
    ap (λ s. has s p) c.set.ensures ∙ (has-insert c.args.row.now c.args.place p ∙ ap (λ b. has c.args.row.now p || (b && (c.args.place == p))) met)

pub returns-else-meets : goal.returns-else-meets
returns-else-meets c = λ p.
    let missed : false ≡ meets c.args.moves.now c.args.goal (state_at c.args.start c.args.place) = rw c.state_at.ensures at c.if-meets.ensures in
    sym (or-false (has c.args.row.now p)) ∙ ap (λ b. has c.args.row.now p || (b && (c.args.place == p))) missed

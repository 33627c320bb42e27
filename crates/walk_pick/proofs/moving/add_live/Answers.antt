use Rattle.std.proofs.Common.{◌≡◌, ◌==◌, ◌||◌, ◌&&◌, true, false, ap, sym, ◌∙◌}
use Rattle.std.proofs.Math.Bool.{or-false}
use Rattle.bit_rows.specs.Sets.{has}
use Rattle.bit_rows.proofs.SetLemmas.{has-insert}
use Rattle.sel_graph.specs.Numbers.{move_of}
use Rattle.walk_pick.proofs.moving.add_live.Goals as goal

pub returns-then-passes : goal.returns-then-passes
returns-then-passes g c = λ p.
    let passes : true ≡ g.T.MoveTest.passes c.args.test.now (move_of c.args.star c.args.place) = rw c.of_place.ensures at c.if-passes.ensures in
    ap (λ s. has s p) c.set.ensures ∙ (has-insert c.args.live.now c.args.place p ∙ ap (λ b. has c.args.live.now p || (b && (c.args.place == p))) passes)

pub returns-else-passes : goal.returns-else-passes
returns-else-passes g c = λ p.
    let fails : false ≡ g.T.MoveTest.passes c.args.test.now (move_of c.args.star c.args.place) = rw c.of_place.ensures at c.if-passes.ensures in
    sym (or-false (has c.args.live.now p)) ∙ ap (λ b. has c.args.live.now p || (b && (c.args.place == p))) fails

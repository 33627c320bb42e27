use Rattle.std.proofs.Common.{◌*◌, nat_lt, Some, sym, ap, ◌∙◌, arith}
use Rattle.std.specs.Option.{option_map}
use Rattle.std.proofs.lemmas.Bool.{and_parts, ltb-true}
use Rattle.sel_graph.specs.Numbers.{move_of}
use Rattle.walk_pick.proofs.PickLemmas.{picked_live_row}
use Rattle.walk_pick.proofs.moving.pick_kind.Goals as goal

pub returns-in-Some-clause-value : goal.returns-in-Some-clause-value
returns-in-Some-clause-value g c =
    let row = picked_live_row c.args.w (g.T.MoveTest.passes c.args.test.now) (g.T.MoveTest.types c.args.test.now) c.args.star c.live_row-live.result (omega (arith, c.live_row-live.ensures.few)) c.live_row-live.ensures.marks in
    ap Some c.of_place.ensures ∙ sym (row ∙ ap (option_map (move_of c.args.star)) (sym c.in-Some.ensures.value))

pub returns-in-Some-clause-live : goal.returns-in-Some-clause-live
returns-in-Some-clause-live g c =
    let below = 5 * g.T.MoveTest.types c.args.test.now in
    let both = sym (c.live_row-live.ensures.marks c.in-Some.place) ∙ c.in-Some.ensures.here in
    let (inside, passes) = and_parts (nat_lt c.in-Some.place below) (g.T.MoveTest.passes c.args.test.now (move_of c.args.star c.in-Some.place)) both in
    rw c.of_place.ensures (omega (arith, ltb-true c.in-Some.place below inside), passes)

pub of_place-requires : goal.of_place-requires
of_place-requires g c =
    let below = 5 * g.T.MoveTest.types c.args.test.now in
    let both = sym (c.live_row-live.ensures.marks c.in-Some.place) ∙ c.in-Some.ensures.here in
    let (inside, passes) = and_parts (nat_lt c.in-Some.place below) (g.T.MoveTest.passes c.args.test.now (move_of c.args.star c.in-Some.place)) both in
    omega (arith, ltb-true c.in-Some.place below inside, c.live_row-live.ensures.few)

pub returns-in-None-clause-value : goal.returns-in-None-clause-value
returns-in-None-clause-value g c =
    let row = picked_live_row c.args.w (g.T.MoveTest.passes c.args.test.now) (g.T.MoveTest.types c.args.test.now) c.args.star c.live_row-live.result (omega (arith, c.live_row-live.ensures.few)) c.live_row-live.ensures.marks in
    sym (row ∙ ap (option_map (move_of c.args.star)) (sym c.in-None.ensures.value))

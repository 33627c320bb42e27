use Rattle.std.proofs.Common.{◌≡◌, ◌||◌, ap, sym, ◌∙◌, arith}
use Rattle.std.specs.List.{list_any}
use Rattle.bit_rows.specs.Sets.{has, numbers_from}
use Rattle.bit_rows.proofs.SetLemmas.{has-empty}
use Rattle.sel_graph.proofs.RowLemmas.{split_has, split_next, split_all, any-push}
use Rattle.walk_pick.specs.LiveRows.{live_step}
use Rattle.walk_pick.proofs.PickLemmas.{live_tested}
use Rattle.walk_pick.proofs.moving.live_row.Goals as goal

pub loop-place-init : goal.loop-place-init
loop-place-init g c = record { split = (cc); joined = λ p. rw c.empty-live.ensures (has-empty p) }

pub add_live-requires-clause-place : goal.add_live-requires-clause-place
add_live-requires-clause-place g c =
    let row = c.into_iter-place-iterator.result.row.now in
    let same : row ≡ c.plain.result.now = ap (λ x. x.row.now) c.into_iter-place-iterator.ensures.into_iter_gives ∙ c.numbers-place-items.ensures.row in
    let here = split_has row c.loop-place.yielded _ _ c.in-Some.place c.loop-place.invariant.split c.in-Some.ensures.steps in
    c.plain.ensures.within c.in-Some.place (sym (ap (λ s. has s c.in-Some.place) same) ∙ here)

pub loop-place-preserved : goal.loop-place-preserved
loop-place-preserved g c = record {
  split = split_next (numbers_from c.into_iter-place-iterator.result.row.now 0 320) c.loop-place.yielded _ _ c.in-Some.place c.loop-place.invariant.split c.in-Some.ensures.steps;
  joined = λ p.
      let step = live_step (g.T.MoveTest.passes c.args.test.now) c.args.star p in
      c.add_live.ensures p ∙ (ap (λ b. b || step c.in-Some.place) (c.loop-place.invariant.joined p) ∙ sym (any-push step c.loop-place.yielded c.in-Some.place));
}

pub returns-clause-marks : goal.returns-clause-marks
returns-clause-marks g c = λ p.
    let passes = g.T.MoveTest.passes c.args.test.now in
    let row = c.into_iter-place-iterator.result.row.now in
    let same : row ≡ c.plain.result.now = ap (λ x. x.row.now) c.into_iter-place-iterator.ensures.into_iter_gives ∙ c.numbers-place-items.ensures.row in
    let all : c.loop-place.yielded ≡ numbers_from row 0 320 = split_all (numbers_from row 0 320) c.loop-place.yielded _ c.loop-place.invariant.split c.in-None.ensures.steps.0 in
    c.loop-place.invariant.joined p
    ∙ (ap (list_any (live_step passes c.args.star p)) all
    ∙ live_tested passes (g.T.MoveTest.types c.args.test.now) c.args.star row p (omega (arith, c.types.ensures))
    (λ q here. c.plain.ensures.within q (sym (ap (λ s. has s q) same) ∙ here)) (λ s q hit. ap (λ x. has x q) same ∙ c.plain.ensures.all s q hit))

use Rattle.std.proofs.Common.{◌≡◌, ◌+◌, length, get_or, ap, ◌∙◌, arith}
use Rattle.std.proofs.lemmas.List.FromFn.{fill_by_all}
use Rattle.std.proofs.lemmas.List.{length-set}
use Rattle.std.proofs.lemmas.List.Sums.{sum_by-set}
use Rattle.seeded_draw.specs.Draw.{word}
use Rattle.seeded_draw.specs.Place.{Place}
use Rattle.edge_match.proofs.FreeSideLemmas.{picked_degree-pick}
use Rattle.edge_match.specs.FreeSide.{picked_degree}
use Rattle.edge_match.proofs.free_side.count_picks.Goals as goal

pub returns-clause-degrees : goal.returns-clause-degrees
returns-clause-degrees c =
    let done : c.loop.counter ≡ c.args.stubs = omega arith in
    fill_by_all (picked_degree c.args.seed c.args.stream (length c.args.degrees.now) c.args.stubs) c.loop.degrees _ 0 c.loop.auto.degrees
    (λ k lt. rw (← done, ← c.loop.auto.degrees) (c.loop.invariant.counts k (rw c.loop.auto.degrees lt)))

pub loop-preserved : goal.loop-preserved
loop-preserved c =
    record {
      draws = c.next.ensures.taken ∙ ap {A = Place} {B = Place} (λ d. record d { taken = d.taken + 1 }) c.loop.invariant.draws;
      counts = λ place lt.
          let in' = length-set c.loop.degrees c.pick-place.result (get_or c.loop.degrees c.pick-place.result 0 + 1) in
          let drawn = c.next.ensures.value ∙ ap (λ d. word d.seed d.stream d.taken) c.loop.invariant.draws in
          rw in' (picked_degree-pick c.loop.degrees _ _ _ _ _ place c.pick-place.ensures.below c.pick-place.ensures.value drawn (c.loop.invariant.counts place (rw in' at lt)));
      total = omega (arith, sum_by-set (λ x. x) c.loop.degrees c.pick-place.result (get_or c.loop.degrees c.pick-place.result 0 + 1) 0 c.pick-place.ensures.below, c.loop.invariant.total);
    }

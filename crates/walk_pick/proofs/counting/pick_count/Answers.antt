use Rattle.std.proofs.Common.{◌+◌, ◌-◌, ap, sym, ◌∙◌}
use Rattle.std.specs.Option.{option_map}
use Rattle.candidates.proofs.PickLemmas.{picked_from_least}
use Rattle.walk_pick.proofs.PickLemmas.{none_is_none}
use Rattle.walk_pick.specs.Candidates.{is_live_count, count_candidates}
use Rattle.walk_pick.proofs.counting.pick_count.Goals as goal

pub returns-clause-value : goal.returns-clause-value
returns-clause-value c =
    let a = c.args in
    let least = a.conjuncts.least in
    c.from_least.ensures
    ∙ (ap (option_map (λ i. least + i)) c.pick_among.ensures.value
    ∙ sym (picked_from_least a.w (is_live_count a.reach.now a.shape a.class) least (a.conjuncts.most + 1 - least)))

pub returns-clause-none : goal.returns-clause-none
returns-clause-none c = none_is_none c.args.w (count_candidates c.args.reach.now c.args.shape c.args.class c.args.conjuncts) _ c.ranges.w.fits (returns-clause-value c)

use Rattle.std.proofs.Common.{◌+◌, ◌-◌, ap, sym, ◌∙◌}
use Rattle.std.specs.Option.{option_map}
use Rattle.candidates.proofs.PickLemmas.{picked_from_least}
use Rattle.walk_pick.proofs.PickLemmas.{none_is_none}
use Rattle.walk_pick.specs.Candidates.{has_length, length_candidates}
use Rattle.walk_pick.proofs.walking.pick_length.Goals as goal

pub returns-clause-value : goal.returns-clause-value
returns-clause-value c =
    let a = c.args in
    let least = a.range.least in
    c.from_least.ensures
    ∙ (ap (option_map (λ i. least + i)) c.pick_among.ensures.value
    ∙ sym (picked_from_least a.w (has_length a.reach.now a.from a.mv) least (a.range.most + 1 - least)))

pub returns-clause-none : goal.returns-clause-none
returns-clause-none c = none_is_none c.args.w (length_candidates c.args.reach.now c.args.from c.args.mv c.args.range) _ c.ranges.w.fits (returns-clause-value c)

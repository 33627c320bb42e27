use Rattle.std.proofs.Common.{Some, ap, sym, ◌∙◌}
use Rattle.walk_pick.specs.Candidates.{symbol_candidates}
use Rattle.walk_pick.proofs.PickLemmas.{picked_symbol, none_is_none}
use Rattle.walk_pick.proofs.walking.pick_symbol.Goals as goal

pub returns-in-Some-clause-value : goal.returns-in-Some-clause-value
returns-in-Some-clause-value c = let a = c.args in ap Some c.nth_symbol.ensures.symbol ∙ sym (picked_symbol a.schema.now a.at a.to a.left a.w _ c.in-Some.ensures.value)

pub returns-in-Some-clause-none : goal.returns-in-Some-clause-none
returns-in-Some-clause-none c = none_is_none c.args.w (symbol_candidates c.args.schema.now c.args.at c.args.to c.args.left) _ c.ranges.w.fits (returns-in-Some-clause-value c)

pub returns-in-None-clause-value : goal.returns-in-None-clause-value
returns-in-None-clause-value c = let a = c.args in sym (picked_symbol a.schema.now a.at a.to a.left a.w _ c.in-None.ensures.value)

pub returns-in-None-clause-none : goal.returns-in-None-clause-none
returns-in-None-clause-none c = none_is_none c.args.w (symbol_candidates c.args.schema.now c.args.at c.args.to c.args.left) _ c.ranges.w.fits (returns-in-None-clause-value c)

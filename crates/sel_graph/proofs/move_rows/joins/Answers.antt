use Rattle.std.proofs.Common.{◌+◌, ◌*◌, Some, None, false, nat_lt, refl}
use Rattle.std.proofs.lemmas.Bool.{lt-ltb, ltb-true}
use Rattle.sel_graph.proofs.GoalLemmas.{joins_tested}
use Rattle.sel_graph.proofs.move_rows.joins.Goals as goal

pub returns-in-Some : goal.returns-in-Some
returns-in-Some c =
    let end = 5 * c.args.to + 5 in
    joins_tested c.args.moves.now c.requires.reach c.args.count c.args.from c.args.to c.places_after-places.result.now (λ p. rw c.begun.ensures at (c.places_after-places.ensures p))
    (Some c.in-Some.place) c.in-Some.ensures.next (nat_lt c.in-Some.place end) (ltb-true c.in-Some.place end, lt-ltb c.in-Some.place end)

pub returns-in-None : goal.returns-in-None
returns-in-None c =
    joins_tested c.args.moves.now c.requires.reach c.args.count c.args.from c.args.to c.places_after-places.result.now (λ p. rw c.begun.ensures at (c.places_after-places.ensures p))
    None c.in-None.ensures.next false refl

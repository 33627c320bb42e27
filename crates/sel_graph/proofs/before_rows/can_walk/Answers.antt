use Rattle.std.proofs.Common.{ap, ◌∙◌}
use Rattle.bit_rows.specs.Sets.{has}
use Rattle.sel_graph.specs.States.{place}
use Rattle.sel_graph.proofs.WalkLemmas.{comes_walk}
use Rattle.sel_graph.proofs.before_rows.can_walk.Goals as goal

pub returns-then-to-from : goal.returns-then-to-from
returns-then-to-from c =
    c.get.ensures ∙ (ap (has c.states_before.result.now) c.place.ensures.place ∙ (c.states_before.ensures (place c.args.from) ∙ comes_walk c.args.schema.now c.args.len c.args.from c.args.to c.if-to-from.true))

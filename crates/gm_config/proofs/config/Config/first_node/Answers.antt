use Rattle.std.proofs.Common.{◌∙◌}
use Rattle.gm_config.proofs.ConfigLemmas.{sum_by-earlier, earlier-within}
use Rattle.gm_config.proofs.config.Config.first_node.Goals as goal

pub all_nodes-requires-clause-few : goal.all_nodes-requires-clause-few
all_nodes-requires-clause-few c = rw c.deref.ensures.value (earlier-within c.self.inside.nodes c.self.inside.types.items c.args.t c.self.invariant.all_nodes)

pub returns-clause-first : goal.returns-clause-first
returns-clause-first c =
    rw (← c.self.view_is) ((rw c.deref.ensures.value at c.all_nodes.ensures) ∙ sum_by-earlier c.self.inside.nodes c.self.inside.types.items c.args.t)

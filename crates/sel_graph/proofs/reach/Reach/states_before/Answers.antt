use Rattle.std.proofs.Common.{sym, ◌∙◌, refl}
use Rattle.sel_graph.specs.States.{place_of, came_to}
use Rattle.sel_graph.proofs.WalkLemmas.{comes_agrees}
use Rattle.sel_graph.proofs.reach.Reach.states_before.Goals as goal

pub returns-clause-exact : goal.returns-clause-exact
returns-clause-exact c = λ at op.
    let test = rw (c.schema.ensures, c.self.view_is) at (c.states_before.ensures (place_of at op)) in
    let agree = comes_agrees c.args.self.now.schema c.args.len (came_to c.args.to.start at op) c.args.to refl in
    (λ h. agree.0 (sym test ∙ h), λ walk. test ∙ agree.1 walk)

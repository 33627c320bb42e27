use Rattle.std.proofs.Common.{arith}
use Rattle.std.proofs.lemmas.Grind.{common_steps}
use Rattle.sparql_read.proofs.QueryLemmas.{pattern_within, pattern_fits, pattern_is}
use Rattle.sparql_read.proofs.query.SparqlQuery.pattern.Goals as goal

pub overflow_add-result : goal.overflow_add-result
overflow_add-result c =
    let fits = pattern_fits c.self.inside.groups.now c.self.inside.patterns.now c.args.g c.args.i (record { first = 0; count = 0 }) (rw (← c.self.view_is) at c.requires.group)
    c.self.invariant.within (rw (← c.self.view_is) at c.requires.place) c.self.invariant.patterns in
    grind (arith, common_steps, fits)

pub bounds-self-inside-group : goal.bounds-self-inside-group
bounds-self-inside-group c =
    pattern_within c.self.inside.groups.now c.self.inside.patterns.now c.args.g c.args.i _ (rw (← c.self.view_is) at c.requires.group)
    c.self.invariant.within (rw (← c.self.view_is) at c.requires.place)

pub returns : goal.returns
returns c =
    rw (← c.self.view_is)
    (pattern_is c.self.inside.groups.now c.self.inside.patterns.now c.args.g c.args.i _ (rw (← c.self.view_is) at c.requires.group)
    c.self.invariant.within (rw (← c.self.view_is) at c.requires.place) _)

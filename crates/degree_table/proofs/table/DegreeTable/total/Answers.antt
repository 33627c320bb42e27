use Rattle.std.proofs.Common.{◌∙◌, arith}
use Rattle.degree_table.proofs.PickLemmas.{total_at}
use Rattle.degree_table.proofs.table.DegreeTable.total.Goals as goal

pub returns-clause-value : goal.returns-clause-value
returns-clause-value c = rw (← c.self.view_is) (c.index.ensures ∙ total_at _ _ _ _ _ c.self.invariant (omega (arith, c.self.inside.sums.ok.0)))

pub returns-clause-positive : goal.returns-clause-positive
returns-clause-positive c =
    let total = c.index.ensures ∙ total_at _ _ _ _ _ c.self.invariant (omega (arith, c.self.inside.sums.ok.0)) in
    let positive = c.self.invariant.positive in
    omega arith

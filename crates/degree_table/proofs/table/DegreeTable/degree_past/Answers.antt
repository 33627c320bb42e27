use Rattle.std.proofs.Common.{arith}
use Rattle.degree_table.proofs.SumLemmas.{IsNonDecreasing-cumulative}
use Rattle.degree_table.proofs.PickLemmas.{degree_at_place, degree_at_place-few}
use Rattle.degree_table.proofs.table.DegreeTable.degree_past.Goals as goal

pub place_past-requires : goal.place_past-requires
place_past-requires c = record { rising = rw (c.deref.ensures.value, c.self.invariant.added) (IsNonDecreasing-cumulative _) }

pub overflow_cast-result : goal.overflow_cast-result
overflow_cast-result c =
    omega (arith, degree_at_place-few _ _ _ c.args.t c.place_past.result c.self.invariant (rw (← c.self.view_is) at c.requires) (rw c.deref.ensures.value at c.place_past.ensures))

pub overflow_add-result : goal.overflow_add-result
overflow_add-result c =
    omega (arith, degree_at_place-few _ _ _ c.args.t c.place_past.result c.self.invariant (rw (← c.self.view_is) at c.requires) (rw c.deref.ensures.value at c.place_past.ensures))

pub returns-clause-limit : goal.returns-clause-limit
returns-clause-limit c =
    degree_at_place-few _ _ _ c.args.t c.place_past.result c.self.invariant (rw (← c.self.view_is) at c.requires) (rw c.deref.ensures.value at c.place_past.ensures)

pub returns-clause-holds : goal.returns-clause-holds
returns-clause-holds c =
    rw (← c.self.view_is) (degree_at_place _ _ _ c.args.t c.place_past.result c.self.invariant (rw (← c.self.view_is) at c.requires) (rw c.deref.ensures.value at c.place_past.ensures))

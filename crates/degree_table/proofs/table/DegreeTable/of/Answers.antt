use Rattle.degree_table.proofs.WeightLemmas.{sum-weights_of-small, IsTable-weights_of}
use Rattle.degree_table.proofs.table.DegreeTable.of.Goals as goal

pub cumulative-requires : goal.cumulative-requires
cumulative-requires c = rw (c.deref.ensures.value, c.in_ok-weights.ensures) (sum-weights_of-small _ _ c.requires.limits)

pub invariant_of-result : goal.invariant_of-result
invariant_of-result c =
    rw (c.least_of.ensures, c.in_ok-sums.ensures, c.deref.ensures.value, c.in_ok-weights.ensures) (IsTable-weights_of _ _ c.requires.limits c.requires.not_free)

-- The calls that are to fail, by their numbers, and the counts of calls and faults so far.
use Rattle.std.specs.Prelude.{ℕ, List}

-- the counts, and the numbers of the calls that are to fail, where the first call is 1
pub record PlanState : Type 0 where
  pub calls : ℕ
  pub faults : ℕ
  pub failing : List ℕ

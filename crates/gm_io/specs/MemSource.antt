-- What a source in memory is seen as.
use Rattle.std.specs.Prelude.{ℕ, List}

-- the bytes left, the counts, and the numbers of the calls that are to fail, where the first call is 1
pub record InputState : Type 0 where
  pub left : List ℕ
  pub given : ℕ
  pub calls : ℕ
  pub faults : ℕ
  pub failing : List ℕ

-- Where a sequence of draws stands.
use Rattle.std.specs.Prelude.{ℕ}

-- a seed, a stream, and the number of its words that were taken
pub record Place : Type 0 where
  pub seed : ℕ
  pub stream : ℕ
  pub taken : ℕ

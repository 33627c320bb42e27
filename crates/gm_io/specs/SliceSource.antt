-- What a contract sees of a source over a slice.
use Rattle.std.specs.Prelude.{ℕ, List}

-- the bytes that are left, and the numbers of bytes given and of calls
pub record SliceState : Type 0 where
  pub left : List ℕ
  pub given : ℕ
  pub calls : ℕ

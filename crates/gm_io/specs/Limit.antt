-- The limit of an input.
use Rattle.std.specs.Prelude.{ℕ}

-- the most bytes of an input: 16 MiB
abbrev pub input_limit : ℕ
input_limit = 16777216

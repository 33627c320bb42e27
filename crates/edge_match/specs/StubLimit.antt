-- The limit of the stubs of a side.
use Rattle.std.specs.Prelude.{ℕ}

-- the most stubs of a side: 4 * 1024 * 1024
abbrev pub stubs_most : ℕ
stubs_most = 4194304

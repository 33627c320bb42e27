-- What a read does to the meanings of a source.
use Rattle.std.specs.Prelude.{◌≡◌, ℕ, Option, List, Result, MatchResult, IfSome}
use Rattle.gm_io.specs.Count.{raised}

-- a read that gave n bytes raised the number of bytes given by n, and a failed one left it
abbrev pub GivesCount : {E : Type 0} → ℕ → ℕ → Result ℕ E → Type 0
GivesCount before now result = MatchResult result (λ n. now ≡ raised before n) (λ _. now ≡ before)

-- these are all the bytes that were left, where the source tells them
abbrev pub AreAllLeft : Option (List ℕ) → List ℕ → Type 0
AreAllLeft left bytes = IfSome left (λ xs. bytes ≡ xs)

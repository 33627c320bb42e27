-- Counts that stop at the greatest u64, and the pieces of a text.
use Rattle.std.proofs.Common.{◌≡◌, ℕ, ◌+◌, ◌≤◌, ◌<◌, min, arith}
use Rattle.gm_io.specs.Count.{raised}
use Rattle.gm_files.specs.Calls.{pieces_of}

-- a count that is raised twice
pub raised-raised : (count a b : ℕ) → raised (raised count a) b ≡ raised count (a + b)
raised-raised count a b = omega arith

-- raising by more leaves a count at least as high
pub raised-le : (count a b : ℕ) → a ≤ b → raised count a ≤ raised count b
raised-le count a b le = omega arith

-- a text takes one piece more than what is left after its first piece
pub pieces_of-first : (n piece rest : ℕ) → n ≡ piece + rest → piece ≡ min 65536 n → 0 < n → pieces_of n ≡ 1 + pieces_of rest
pieces_of-first n piece rest parts size some = omega arith

-- Pairs of numbers, such as the rows of a query.
use Rattle.std.specs.Prelude.{◌≡◌, ℕ, ◌<◌, List, [], ◌∷◌, ◌⊎◌, ⊤}

-- a pair is below another by its first number, and by its second where the first are equal
abbrev pub PairBelow : ℕ × ℕ → ℕ × ℕ → Type 0
PairBelow p q = (p.0 < q.0) ⊎ ((p.0 ≡ q.0) × (p.1 < q.1))

-- each pair is below the next one, so they ascend and none stands twice
abbrev pub IsAscending : List (ℕ × ℕ) → Type 0
IsAscending [] = ⊤
IsAscending (p ∷ []) = ⊤
IsAscending (p ∷ q ∷ pairs) = PairBelow p q × IsAscending (q ∷ pairs)

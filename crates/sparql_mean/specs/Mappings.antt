-- Mappings of variables to numbers. A variable is the list of its bytes. The order of a mapping's entries is of no
-- matter, and one that stands twice counts once.
--   Mapping             variables with their numbers
--   IsMapping m         no variable has two numbers
--   AreCompatible m k   they agree on each variable of both
--   IsJoin m k r        r is the union of both
--   AreValues m xs row  the row has the numbers of the variables, in their order
use Rattle.std.specs.Prelude.{◌≡◌, ◌⊎◌, ◌↔◌, ⊤, ℕ, List, [], ◌∷◌, Contains}

-- variables with their numbers
abbrev pub Mapping : Type 0
Mapping = List (List ℕ × ℕ)

-- each variable has one number
abbrev pub IsMapping : Mapping → Type 0
IsMapping m = (x : List ℕ) (a b : ℕ) → Contains m (x, a) → Contains m (x, b) → a ≡ b

-- a variable of both has the same number in both
abbrev pub AreCompatible : Mapping → Mapping → Type 0
AreCompatible m k = (x : List ℕ) (a b : ℕ) → Contains m (x, a) → Contains k (x, b) → a ≡ b

-- it has the entries of both
abbrev pub IsJoin : Mapping → Mapping → Mapping → Type 0
IsJoin m k r = (entry : List ℕ × ℕ) → Contains r entry ↔ (Contains m entry ⊎ Contains k entry)

-- the number of each variable, which all have one
abbrev pub AreValues : Mapping → List (List ℕ) → List ℕ → Type 0
AreValues m [] [] = ⊤
AreValues m [] (n ∷ row) = ⊥
AreValues m (x ∷ xs) [] = ⊥
AreValues m (x ∷ xs) (n ∷ row) = Contains m (x, n) × AreValues m xs row

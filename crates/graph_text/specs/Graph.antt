-- A graph is a list of triples. Equal triples may stand more than once.
use Rattle.std.specs.Prelude.{◌≡◌, ℕ, List, Contains, ◌⊎◌}
use Rattle.graph_text.specs.declared.graphs.Triple.{Triple}

-- a node of a graph is a number that occurs as an end of some triple
abbrev pub IsNode : List Triple → ℕ → Type 0
IsNode graph n = (triple : Triple) × Contains graph triple × ((triple.src ≡ n) ⊎ (triple.trg ≡ n))

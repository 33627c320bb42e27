-- Which numbers a property path over a graph leads from and to.
--   IsNamedEdge names name graph a b    an edge, whose label has this name, leads from a to b
--   PathPairs names path graph a b      the path leads from a to b
-- A label has the name at its number, and past the last name it has none.
use Rattle.std.specs.Prelude.{◌≡◌, ◌⊎◌, ℕ, List, Contains, slice_get, Some}
use Rattle.graph_text.specs.declared.graphs.Triple.{Triple}
use Rattle.graph_text.specs.Graph.{IsNode}
use Rattle.path_pairs.specs.Rounds.{IsVisited}
use Rattle.sparql_read.specs.Grammar.{Path, Iri, Inverse, Seq, Alt, Star, Plus, Opt}

-- an edge whose label has this name: where two labels have it, the edges of both
abbrev pub IsNamedEdge : List (List ℕ) → List ℕ → List Triple → ℕ → ℕ → Type 0
IsNamedEdge names name graph a b = (t : Triple) × Contains graph t × (slice_get names t.label ≡ Some name) × (t.src ≡ a) × (t.trg ≡ b)

-- from a node to itself and to all that repeated steps visit
abbrev pub IsRepeated : List Triple → (ℕ → ℕ → Type 0) → ℕ → ℕ → Type 0
IsRepeated graph R a b = IsNode graph a × IsVisited graph R a b

-- a predicate has the ends of its edges, and an inverse swaps them; a sequence passes through some number, that of a
-- variable of its own; an alternative has the pairs of either part; `*` leads from each node to all that it visits; `+`
-- is one step and then `*`; and `?` has the part's pairs, and each node with itself
abbrev pub PathPairs : List (List ℕ) → Path → List Triple → ℕ → ℕ → Type 0
PathPairs names (Iri name) graph a b = IsNamedEdge names name graph a b
PathPairs names (Inverse p) graph a b = PathPairs names p graph b a
PathPairs names (Seq p q) graph a c = (b : ℕ) × PathPairs names p graph a b × PathPairs names q graph b c
PathPairs names (Alt p q) graph a b = PathPairs names p graph a b ⊎ PathPairs names q graph a b
PathPairs names (Star p) graph a b = IsRepeated graph (PathPairs names p graph) a b
PathPairs names (Plus p) graph a c = (b : ℕ) × PathPairs names p graph a b × IsRepeated graph (PathPairs names p graph) b c
PathPairs names (Opt p) graph a b = PathPairs names p graph a b ⊎ (IsNode graph a × (a ≡ b))

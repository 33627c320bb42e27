-- Repetitions in rounds: by visits from one node, and by a table that grows.
--   ends graph, node_count graph     the ends of the triples, and how many different ones there are
--   Visited R n k m                  m is reached from n within k rounds
--   IsVisited graph R n m            m is reached within as many rounds as the graph has nodes
--   InRound graph R k a c            the pair is in the table after k rounds
--   AddsNothing graph R k            the round after the k-th adds no pair
--   IsRow graph R a c                the pair is in the table after a round from which on nothing is added
use Rattle.std.specs.Prelude.{◌≡◌, ◌⊎◌, ℕ, zero, suc, List, [], ◌∷◌, eqb}
use Rattle.std.specs.List.{flat_map}
use Rattle.std.specs.Set.{distinct_count}
use Rattle.graph_text.specs.declared.graphs.Triple.{Triple}
use Rattle.graph_text.specs.Graph.{IsNode}

-- where a triple begins and ends
abbrev pub ends_of : Triple → List ℕ
ends_of t = t.src ∷ t.trg ∷ []

-- the ends of all triples, with repeats
abbrev pub ends : List Triple → List ℕ
ends graph = flat_map ends_of graph

-- how many different nodes there are
abbrev pub node_count : List Triple → ℕ
node_count graph = distinct_count eqb (ends graph)

-- at first n itself, and in each round what is related to a number that is reached
abbrev pub Visited : (ℕ → ℕ → Type 0) → ℕ → ℕ → ℕ → Type 0
Visited R n zero m = n ≡ m
Visited R n (suc k) m = Visited R n k m ⊎ ((u : ℕ) × Visited R n k u × R u m)

-- as many rounds as there are nodes
abbrev pub IsVisited : List Triple → (ℕ → ℕ → Type 0) → ℕ → ℕ → Type 0
IsVisited graph R n m = Visited R n (node_count graph) m

-- at first each node with itself, and in each round the pairs that go one step further
abbrev pub InRound : List Triple → (ℕ → ℕ → Type 0) → ℕ → ℕ → ℕ → Type 0
InRound graph R zero a c = IsNode graph a × (a ≡ c)
InRound graph R (suc k) a c = InRound graph R k a c ⊎ ((b : ℕ) × InRound graph R k a b × R b c)

-- each pair of the next round is there already
abbrev pub AddsNothing : List Triple → (ℕ → ℕ → Type 0) → ℕ → Type 0
AddsNothing graph R k = (a c : ℕ) → InRound graph R (suc k) a c → InRound graph R k a c

-- a pair of a round after which nothing is added
pub record IsRow (graph : List Triple) (R : ℕ → ℕ → Type 0) (a c : ℕ) : Type 0 where
  pub round : ℕ
  pub stable : AddsNothing graph R round
  pub row : InRound graph R round a c

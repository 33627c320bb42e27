-- Relations of the nodes of a graph as lists, each of them the pairs of nodes that pass a test.
--   IsTable R pairs           the list has exactly the pairs that are related
--   RelatesNodes graph R      only nodes are related
--   AreNodes graph nodes      the list has exactly the nodes of the graph, ascending
--   select test nodes         the pairs of nodes that pass, by the first and then by the second
--   has pairs a b             the list has the pair
--   joins .., has_either ..   tests by lists
--   rounds nodes step k       the pairs after k rounds of a repetition
--   table_in tables n         the list at a place
use Rattle.std.specs.Prelude.{◌↔◌, ℕ, zero, suc, Bool, ◌==◌, ◌&&◌, ◌||◌, if◌then◌else◌, List, [], ◌∷◌, Contains}
use Rattle.std.specs.List.{flat_map, list_any, slice_index_or}
use Rattle.std.specs.List.Sorted.{IsStrictlySortedBy}
use Rattle.std.specs.Ordering.{nat_cmp}
use Rattle.graph_text.specs.declared.graphs.Triple.{Triple}
use Rattle.graph_text.specs.Graph.{IsNode}

-- exactly the pairs that are related
abbrev pub IsTable : (ℕ → ℕ → Type 0) → List (ℕ × ℕ) → Type 0
IsTable R pairs = (a b : ℕ) → Contains pairs (a, b) ↔ R a b

-- what is related is a node
abbrev pub RelatesNodes : List Triple → (ℕ → ℕ → Type 0) → Type 0
RelatesNodes graph R = (a b : ℕ) → R a b → IsNode graph a × IsNode graph b

-- exactly the nodes
pub record AreNodes (graph : List Triple) (nodes : List ℕ) : Type 0 where
  pub rising : IsStrictlySortedBy nat_cmp nodes
  pub each : (n : ℕ) → Contains nodes n ↔ IsNode graph n

-- the pair, where it passes
abbrev pub if_passes : (ℕ → ℕ → Bool) → ℕ → ℕ → List (ℕ × ℕ)
if_passes test a b = if test a b then (a, b) ∷ [] else []

-- the pairs of one node
abbrev pub row : (ℕ → ℕ → Bool) → List ℕ → ℕ → List (ℕ × ℕ)
row test nodes a = flat_map (if_passes test a) nodes

-- the pairs of all nodes
abbrev pub select : (ℕ → ℕ → Bool) → List ℕ → List (ℕ × ℕ)
select test nodes = flat_map (row test nodes) nodes

-- it is this pair
abbrev pub is_pair : ℕ → ℕ → ℕ × ℕ → Bool
is_pair a b p = (p.0 == a) && (p.1 == b)

-- one of the pairs
abbrev pub has : List (ℕ × ℕ) → ℕ → ℕ → Bool
has pairs a b = list_any (is_pair a b) pairs

-- the lists join the numbers by way of a node
abbrev pub passes_by : List (ℕ × ℕ) → List (ℕ × ℕ) → ℕ → ℕ → ℕ → Bool
passes_by first second a c b = has first a b && has second b c

abbrev pub joins : List ℕ → List (ℕ × ℕ) → List (ℕ × ℕ) → ℕ → ℕ → Bool
joins nodes first second a c = list_any (passes_by first second a c) nodes

-- either list has the pair
abbrev pub has_either : List (ℕ × ℕ) → List (ℕ × ℕ) → ℕ → ℕ → Bool
has_either left right a b = has left a b || has right a b

-- a pair of the list, or a number with itself
abbrev pub has_or_same : List (ℕ × ℕ) → ℕ → ℕ → Bool
has_or_same pairs a b = has pairs a b || (a == b)

-- a pair of the list, or one that goes a step further
abbrev pub further : List ℕ → List (ℕ × ℕ) → List (ℕ × ℕ) → ℕ → ℕ → Bool
further nodes pairs step a c = has pairs a c || joins nodes pairs step a c

-- at first each node with itself
unfoldable pub rounds : List ℕ → List (ℕ × ℕ) → ℕ → List (ℕ × ℕ)
rounds nodes step zero = select (has_or_same []) nodes
rounds nodes step (suc k) = select (further nodes (rounds nodes step k) step) nodes

-- the list at a place
abbrev pub table_in : List (List (ℕ × ℕ)) → ℕ → List (ℕ × ℕ)
table_in tables n = slice_index_or tables n []

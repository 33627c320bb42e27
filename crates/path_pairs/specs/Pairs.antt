-- Which numbers a path over a graph leads from and to.
--   HasEdge graph label a b     the graph has an edge with this label from a to b
--   Links R a rest b            in the list that begins with a and ends with b, neighbours are related
--   Chain graph R a b           some list of nodes begins with a, ends with b, and its neighbours are related
--   Pairs path graph a b        the path leads from a to b
use Rattle.std.specs.Prelude.{◌≡◌, ◌⊎◌, ℕ, true, false, List, [], ◌∷◌, Contains}
use Rattle.graph_text.specs.declared.graphs.Triple.{Triple}
use Rattle.graph_text.specs.Graph.{IsNode}
use Rattle.path_pairs.specs.Trees.{Tree}
use Rattle.path_pairs.specs.Trees.Tree.{Step, Seq, Alt, Star, Opt}

-- an edge with the label from a to b is one of the triples
abbrev pub HasEdge : List Triple → ℕ → ℕ → ℕ → Type 0
HasEdge graph label a b = (t : Triple) × Contains graph t × (t.label ≡ label) × (t.src ≡ a) × (t.trg ≡ b)

-- the list a ∷ rest ends with b, and each of its numbers is related to the next one
abbrev pub Links : (ℕ → ℕ → Type 0) → ℕ → List ℕ → ℕ → Type 0
Links R a [] b = a ≡ b
Links R a (n ∷ rest) b = R a n × Links R n rest b

-- a list that begins with a node: the others are nodes too, where R relates nodes alone
pub record Chain (graph : List Triple) (R : ℕ → ℕ → Type 0) (a b : ℕ) : Type 0 where
  pub node : IsNode graph a
  pub rest : List ℕ
  pub links : Links R a rest b

-- a step has the ends of the edges with its label, swapped where it goes back; a sequence passes through some number;
-- a choice has the pairs of either path; a repetition has the ends of the lists whose neighbours its child leads
-- between; and an option has its child's pairs, and each node with itself
abbrev pub Pairs : Tree → List Triple → ℕ → ℕ → Type 0
Pairs (Step label false) graph a b = HasEdge graph label a b
Pairs (Step label true) graph a b = HasEdge graph label b a
Pairs (Seq first second) graph a c = (b : ℕ) × Pairs first graph a b × Pairs second graph b c
Pairs (Alt left right) graph a b = Pairs left graph a b ⊎ Pairs right graph a b
Pairs (Star child) graph a b = Chain graph (Pairs child graph) a b
Pairs (Opt child) graph a b = Pairs child graph a b ⊎ (IsNode graph a × (a ≡ b))

-- Which numbers words lead from and to, by their symbols.
--   WordPairs labels graph word a b       some list of numbers from a to b has a symbol's edge at each step
--   UnionPairs labels graph words a b     one of the words leads from a to b
use Rattle.std.specs.Prelude.{◌≡◌, ℕ, List, [], ◌∷◌, Contains}
use Rattle.sel_algebra.specs.declared.vocabulary.Symbol.{Symbol}
use Rattle.graph_text.specs.declared.graphs.Triple.{Triple}
use Rattle.path_pairs.specs.Trees.{step_tree}
use Rattle.path_pairs.specs.Pairs.{Pairs}

-- the symbols one after the other
abbrev pub WordPairs : List ℕ → List Triple → List Symbol → ℕ → ℕ → Type 0
WordPairs labels graph [] a b = a ≡ b
WordPairs labels graph (s ∷ word) a c = (b : ℕ) × Pairs (step_tree labels s) graph a b × WordPairs labels graph word b c

-- some word of the list
abbrev pub UnionPairs : List ℕ → List Triple → List (List Symbol) → ℕ → ℕ → Type 0
UnionPairs labels graph words a b = (word : List Symbol) × Contains words word × WordPairs labels graph word a b

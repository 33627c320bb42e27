-- Laws of paths.
--   WordGrows          a word with one more symbol is the sequence of the word and the symbol's step
--   UnionGrows         a union with one more word is the choice of the union and the word
--   PairsAreNodes      a path leads from nodes to nodes
--   StarsAgree         a repetition is the same by lists of neighbours, by visits and by rounds of a table
--   StableRoundsAgree  what any round has, each round after which nothing is added has
--   SomeRoundIsStable  after as many rounds as there are nodes nothing is added
--   WordsLead          the tree of a word leads where its symbols lead, one after the other
--   UnionsLead         the tree of words leads where one of them leads
use Rattle.std.specs.Prelude.{◌≡◌, ◌≢◌, ◌↔◌, ℕ, List, [], ◌∷◌, ◌++◌, All}
use Rattle.sel_algebra.specs.declared.vocabulary.Symbol.{Symbol}
use Rattle.graph_text.specs.declared.graphs.Triple.{Triple}
use Rattle.graph_text.specs.Graph.{IsNode}
use Rattle.path_pairs.specs.Trees.{Tree, step_tree, word_tree, union_tree}
use Rattle.path_pairs.specs.Pairs.{Pairs}
use Rattle.path_pairs.specs.Rounds.{node_count, IsVisited, InRound, AddsNothing, IsRow}
use Rattle.path_pairs.specs.Words.{WordPairs, UnionPairs}

-- the tree of a word and one more symbol
abbrev pub WordGrows : Type 0
WordGrows = (labels : List ℕ) (word : List Symbol) (s : Symbol) → word ≢ []
    → word_tree labels (word ++ s ∷ []) ≡ Tree.Seq (word_tree labels word) (step_tree labels s)

-- the tree of words and one more
abbrev pub UnionGrows : Type 0
UnionGrows = (labels : List ℕ) (words : List (List Symbol)) (word : List Symbol) → words ≢ []
    → union_tree labels (words ++ word ∷ []) ≡ Tree.Alt (union_tree labels words) (word_tree labels word)

-- the numbers of a pair are ends of triples
abbrev pub PairsAreNodes : Type 0
PairsAreNodes = (path : Tree) (graph : List Triple) (a b : ℕ) → Pairs path graph a b → IsNode graph a × IsNode graph b

-- a repetition by visits from a node, and by rounds of a table
pub record StarAgrees (path : Tree) (graph : List Triple) (a b : ℕ) : Type 0 where
  pub visits : Pairs (Tree.Star path) graph a b ↔ (IsNode graph a × IsVisited graph (Pairs path graph) a b)
  pub rounds : Pairs (Tree.Star path) graph a b ↔ IsRow graph (Pairs path graph) a b

-- the three forms of a repetition have the same pairs
abbrev pub StarsAgree : Type 0
StarsAgree = (path : Tree) (graph : List Triple) (a b : ℕ) → StarAgrees path graph a b

-- a round after which nothing is added has the pairs of all rounds
abbrev pub StableRoundsAgree : Type 0
StableRoundsAgree = (path : Tree) (graph : List Triple) (k : ℕ) → AddsNothing graph (Pairs path graph) k
    → (j a c : ℕ) → InRound graph (Pairs path graph) j a c → InRound graph (Pairs path graph) k a c

-- so many rounds are enough
abbrev pub SomeRoundIsStable : Type 0
SomeRoundIsStable = (path : Tree) (graph : List Triple) → AddsNothing graph (Pairs path graph) (node_count graph)

-- a word of one symbol and more
abbrev pub WordsLead : Type 0
WordsLead = (labels : List ℕ) (graph : List Triple) (word : List Symbol) → word ≢ [] → (a b : ℕ)
    → Pairs (word_tree labels word) graph a b ↔ WordPairs labels graph word a b

-- one word and more, each of one symbol and more
abbrev pub UnionsLead : Type 0
UnionsLead = (labels : List ℕ) (graph : List Triple) (words : List (List Symbol)) → words ≢ [] → All (λ word. word ≢ []) words
    → (a b : ℕ) → Pairs (union_tree labels words) graph a b ↔ UnionPairs labels graph words a b

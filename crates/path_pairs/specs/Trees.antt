-- Paths as trees.
--   Tree                             a path: a step, two paths in sequence, a choice of two, a repetition, an option
--   nested join trees                trees joined from the left
--   step_tree labels s               the step of a symbol: along its edge's label, or back on it
--   word_tree labels word            the sequence of a word's steps
--   union_tree labels words          the choice of words
--   conjunct_tree labels star words  the same, repeated where it is starred
use Rattle.std.specs.Prelude.{ℕ, Bool, false, List, [], ◌∷◌, map, fold, slice_index, if◌then◌else◌}
use Rattle.sel_algebra.specs.declared.vocabulary.Symbol.{Symbol}

-- a path
pub data Tree : Type 0 where
  Step : (label : ℕ) (back : Bool) → Tree
  Seq : (first second : Tree) → Tree
  Alt : (left right : Tree) → Tree
  Star : (child : Tree) → Tree
  Opt : (child : Tree) → Tree

-- trees joined from the left, as ((a · b) · c) · d; of no tree, a step that nothing asks for
abbrev pub nested : (Tree → Tree → Tree) → List Tree → Tree
nested join [] = Tree.Step 0 false
nested join (tree ∷ trees) = fold join tree trees

-- the step of a symbol: along the label of its edge, or back on it
abbrev pub step_tree : List ℕ → Symbol → Tree
step_tree labels s = Tree.Step (slice_index labels s.edge) s.back

-- the steps of a word in sequence, from the left
abbrev pub word_tree : List ℕ → List Symbol → Tree
word_tree labels word = nested Tree.Seq (map (step_tree labels) word)

-- the choice of words, from the left
abbrev pub union_tree : List ℕ → List (List Symbol) → Tree
union_tree labels words = nested Tree.Alt (map (word_tree labels) words)

-- the choice of a conjunct's words, repeated where the conjunct is starred
abbrev pub conjunct_tree : List ℕ → Bool → List (List Symbol) → Tree
conjunct_tree labels star words = if star then Tree.Star (union_tree labels words) else union_tree labels words

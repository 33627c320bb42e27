-- What terms stand for.
--   tree_in trees n        the tree at a place
--   tree_of trees term     the tree of a term, from the trees of its children
--   trees_of terms         the tree of each term
--   tree_at terms n        the tree of the term with a number
use Rattle.std.specs.Prelude.{ℕ, false, List, [], ◌∷◌, ◌++◌, fold}
use Rattle.std.specs.List.{slice_index_or}
use Rattle.path_pairs.specs.Trees.{Tree}
use Rattle.query_terms.specs.declared.terms.Term.{Term}
use Rattle.query_terms.specs.declared.terms.Term.TheVariants.{Step, Seq, Alt, Star, Opt}

-- the tree at a place, and past the end a step that nothing asks for
abbrev pub tree_in : List Tree → ℕ → Tree
tree_in trees n = slice_index_or trees n (Tree.Step 0 false)

-- the same path, with the trees of the children in the place of their numbers
abbrev pub tree_of : List Tree → Term → Tree
tree_of trees (Step label back) = Tree.Step label back
tree_of trees (Seq first second) = Tree.Seq (tree_in trees first) (tree_in trees second)
tree_of trees (Alt left right) = Tree.Alt (tree_in trees left) (tree_in trees right)
tree_of trees (Star child) = Tree.Star (tree_in trees child)
tree_of trees (Opt child) = Tree.Opt (tree_in trees child)

-- the trees of the terms before it, and the tree of a term
abbrev pub with_tree : List Tree → Term → List Tree
with_tree trees term = trees ++ tree_of trees term ∷ []

-- the tree of each term, whose children come before it
abbrev pub trees_of : List Term → List Tree
trees_of terms = fold with_tree [] terms

-- the tree of the term with this number
abbrev pub tree_at : List Term → ℕ → Tree
tree_at terms n = tree_in (trees_of terms) n

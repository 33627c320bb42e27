-- Laws of terms.
--   TermsKeepTrees     a term keeps its tree as further terms are added
--   PutIsTree          what was put has the tree of the term
--   ConjunctsAreTrees  the term of each conjunct has the tree of the conjunct's words
use Rattle.std.specs.Prelude.{◌≡◌, true, ℕ, ◌<◌, List, ◌++◌, length, map}
use Rattle.std.specs.List.{list_all}
use Rattle.path_pairs.specs.Trees.{Tree, conjunct_tree}
use Rattle.query_terms.specs.declared.terms.Term.{Term}
use Rattle.query_terms.specs.Store.{IsStore, ChildrenBelow, put_of}
use Rattle.query_terms.specs.Values.{ConjunctValue, is_conjunct}
use Rattle.query_terms.specs.Numbering.{numbered}
use Rattle.query_terms.specs.Trees.{tree_of, trees_of, tree_at}

-- a term of a store has the same tree in each store that goes on with more terms
abbrev pub TermsKeepTrees : Type 0
TermsKeepTrees = (terms more : List Term) (n : ℕ) → n < length terms → tree_at (terms ++ more) n ≡ tree_at terms n

-- the number of a term that is put has the term's tree
abbrev pub PutIsTree : Type 0
PutIsTree = (terms : List Term) (term : Term) → IsStore terms → ChildrenBelow (length terms) term
    → tree_at (put_of terms term).terms (put_of terms term).number ≡ tree_of (trees_of terms) term

-- the tree of a conjunct
abbrev pub tree_of_conjunct : List ℕ → ConjunctValue → Tree
tree_of_conjunct labels c = conjunct_tree labels c.star c.words

-- the numbers of conjuncts have the trees of the conjuncts
abbrev pub ConjunctsAreTrees : Type 0
ConjunctsAreTrees = (labels : List ℕ) (conjuncts : List ConjunctValue) → list_all (is_conjunct (length labels)) conjuncts ≡ true
    → map (tree_at (numbered labels conjuncts).terms) (numbered labels conjuncts).numbers ≡ map (tree_of_conjunct labels) conjuncts

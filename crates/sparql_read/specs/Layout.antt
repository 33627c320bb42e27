-- What a text asks as lists: its paths numbered in the order in which they end, an inner path before the outer that
-- ends with it.
--   laid_out asked    the lists of what a text asks
use Rattle.std.specs.Prelude.{ℕ, List, [], ◌∷◌, ◌++◌, ◌+◌, length}
use Rattle.gm_text.specs.declared.lists.Span.{Span}
use Rattle.sparql_read.specs.Grammar.{Pattern, Asked}
use Rattle.sparql_read.specs.Grammar as paths

-- a path whose parts are given by their numbers
pub data Node : Type 0 where
  Iri : (name : List ℕ) → Node
  Inverse : (part : ℕ) → Node
  Seq : (left right : ℕ) → Node
  Alt : (left right : ℕ) → Node
  Star : (part : ℕ) → Node
  Plus : (part : ℕ) → Node
  Opt : (part : ℕ) → Node

-- the number of a path, where the numbers below n are taken
abbrev pub number : ℕ → paths.Path → ℕ
number n (paths.Iri name) = n
number n (paths.Inverse p) = number n p + 1
number n (paths.Seq p q) = number (number n p + 1) q + 1
number n (paths.Alt p q) = number (number n p + 1) q + 1
number n (paths.Star p) = number n p + 1
number n (paths.Plus p) = number n p + 1
number n (paths.Opt p) = number n p + 1

-- a path and all paths in it, in the order in which they end
abbrev pub nodes : ℕ → paths.Path → List Node
nodes n (paths.Iri name) = Iri name ∷ []
nodes n (paths.Inverse p) = nodes n p ++ Inverse (number n p) ∷ []
nodes n (paths.Seq p q) = nodes n p ++ (nodes (number n p + 1) q ++ Seq (number n p) (number (number n p + 1) q) ∷ [])
nodes n (paths.Alt p q) = nodes n p ++ (nodes (number n p + 1) q ++ Alt (number n p) (number (number n p + 1) q) ∷ [])
nodes n (paths.Star p) = nodes n p ++ Star (number n p) ∷ []
nodes n (paths.Plus p) = nodes n p ++ Plus (number n p) ∷ []
nodes n (paths.Opt p) = nodes n p ++ Opt (number n p) ∷ []

-- a pattern whose path is given by its number
pub record Entry : Type 0 where
  pub subject : List ℕ
  pub path : ℕ
  pub object : List ℕ

-- the paths of patterns, in the order of the text
abbrev pub all_nodes : ℕ → List Pattern → List Node
all_nodes n [] = []
all_nodes n (p ∷ ps) = nodes n p.path ++ all_nodes (number n p.path + 1) ps

-- the patterns with the numbers of their paths
abbrev pub entries : ℕ → List Pattern → List Entry
entries n [] = []
entries n (p ∷ ps) =
    record { subject = p.subject; path = number n p.path; object = p.object } ∷ entries (number n p.path + 1) ps

-- the patterns of all groups
abbrev pub flat : List (List Pattern) → List Pattern
flat [] = []
flat (g ∷ gs) = g ++ flat gs

-- each group as a part of the list of all patterns
abbrev pub spans : ℕ → List (List Pattern) → List Span
spans n [] = []
spans n (g ∷ gs) = record { first = n; count = length g } ∷ spans (n + length g) gs

-- the lists of a query
pub record Lists : Type 0 where
  pub variables : List (List ℕ)
  pub groups : List Span
  pub patterns : List Entry
  pub paths : List Node

-- what a text asks as lists
abbrev pub laid_out : Asked → Lists
laid_out asked = record {
  variables = asked.heads;
  groups = spans 0 asked.groups;
  patterns = entries 0 (flat asked.groups);
  paths = all_nodes 0 (flat asked.groups);
}

-- The limits of a configuration.
use Rattle.std.specs.Prelude.{ℕ, List, [], ◌∷◌, codes}

-- ---- nodes, types, labels and constraints

-- the most nodes of a graph, asked for and in all
abbrev pub nodes_most : ℕ
nodes_most = 1000000

-- the most types of nodes
abbrev pub types_most : ℕ
types_most = 64

-- the most labels of edges
abbrev pub labels_most : ℕ
labels_most = 64

-- the most constraints
abbrev pub constraints_most : ℕ
constraints_most = 128

-- the thousandths of a whole
abbrev pub thousand : ℕ
thousand = 1000

-- ---- degrees

-- the greatest degree
abbrev pub degree_most : ℕ
degree_most = 100000

-- the greatest exponent of a `zipf`
abbrev pub exponent_most : ℕ
exponent_most = 3

-- the greatest weight
abbrev pub weight_most : ℕ
weight_most = 1000000000

-- the most weights: one for each degree
abbrev pub weights_most : ℕ
weights_most = 100001

-- ---- queries

-- the most queries
abbrev pub queries_most : ℕ
queries_most = 1000

-- the greatest share of starred conjuncts, in thousandths
abbrev pub star_most : ℕ
star_most = 1000

-- the most shapes
abbrev pub shapes_most : ℕ
shapes_most = 4

-- the most classes
abbrev pub classes_most : ℕ
classes_most = 3

-- the limits of a range: the name of its member, the least number that it begins with, and the greatest that it ends with
pub record RangeLimits : Type 0 where
  pub name : List ℕ
  pub least : ℕ
  pub most : ℕ

-- the ranges of a workload: of the rules of a query, the conjuncts of a rule, the words of a conjunct, the symbols of a word, and the heads of a query
abbrev pub range_limits : List RangeLimits
range_limits =
    record { name = codes "rules"; least = 1; most = 4 }
    ∷ record { name = codes "conjuncts"; least = 1; most = 8 }
    ∷ record { name = codes "disjuncts"; least = 1; most = 8 }
    ∷ record { name = codes "length"; least = 1; most = 32 }
    ∷ record { name = codes "arity"; least = 0; most = 4 }
    ∷ []

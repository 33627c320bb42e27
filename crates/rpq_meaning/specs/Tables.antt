-- The pairs of terms as lists, each of them the pairs of nodes that pass a test.
--   leads label a b t               the triple leads from a to b
--   is_step graph label back a b    some triple does, or leads back
--   table_of graph nodes tables t   the pairs of a term, from the lists of its children
--   tables_of graph nodes terms     the pairs of each term
use Rattle.std.specs.Prelude.{◌≡◌, ◌<◌, ℕ, Bool, true, false, ◌==◌, ◌&&◌, List, [], ◌∷◌, ◌++◌, length, fold}
use Rattle.std.specs.List.{list_any}
use Rattle.graph_text.specs.declared.graphs.Triple.{Triple}
use Rattle.node_tables.specs.Tables.{select, joins, has_either, has_or_same, rounds, table_in}
use Rattle.query_terms.specs.Trees.{tree_at}
use Rattle.query_terms.specs.declared.terms.Term.{Term}
use Rattle.query_terms.specs.declared.terms.Term.TheVariants.{Step, Seq, Alt, Star, Opt}
use Rattle.rpq_meaning.specs.QueryRows.{ArePairs}

-- the triple has the label and these ends
abbrev pub leads : ℕ → ℕ → ℕ → Triple → Bool
leads label a b t = (t.label == label) && (t.src == a) && (t.trg == b)

-- some triple leads from a to b, or back
abbrev pub is_step : List Triple → ℕ → Bool → ℕ → ℕ → Bool
is_step graph label true a b = list_any (leads label b a) graph
is_step graph label false a b = list_any (leads label a b) graph

-- the pairs of a term
abbrev pub table_of : List Triple → List ℕ → List (List (ℕ × ℕ)) → Term → List (ℕ × ℕ)
table_of graph nodes tables (Step label back) = select (is_step graph label back) nodes
table_of graph nodes tables (Seq first second) = select (joins nodes (table_in tables first) (table_in tables second)) nodes
table_of graph nodes tables (Alt left right) = select (has_either (table_in tables left) (table_in tables right)) nodes
table_of graph nodes tables (Star child) = rounds nodes (table_in tables child) (length nodes)
table_of graph nodes tables (Opt child) = select (has_or_same (table_in tables child)) nodes

-- the lists of the terms before it, and that of a term
abbrev pub with_table : List Triple → List ℕ → List (List (ℕ × ℕ)) → Term → List (List (ℕ × ℕ))
with_table graph nodes tables t = tables ++ table_of graph nodes tables t ∷ []

-- the list of each term
abbrev pub tables_of : List Triple → List ℕ → List Term → List (List (ℕ × ℕ))
tables_of graph nodes terms = fold (with_table graph nodes) [] terms

-- each term of the list has its pairs
pub record AreTables (graph : List Triple) (terms : List Term) (tables : List (List (ℕ × ℕ))) : Type 0 where
  pub many : length tables ≡ length terms
  pub each : (n : ℕ) → n < length terms → ArePairs graph (tree_at terms n) (table_in tables n)

-- The pairs of paths as lists, each of them the pairs of nodes that pass a test.
--   is_edge names name graph a b         some edge whose label has the name leads from a to b
--   table_of names graph nodes tables p  the pairs of a path, from the lists of its parts
--   tables_of names graph nodes paths    the pairs of each path
use Rattle.std.specs.Prelude.{ℕ, Bool, false, ◌==◌, ◌&&◌, List, [], ◌∷◌, ◌++◌, length, fold, slice_get, Option, Some, None, bytes_eq}
use Rattle.std.specs.List.{list_any}
use Rattle.graph_text.specs.declared.graphs.Triple.{Triple}
use Rattle.node_tables.specs.Tables.{select, has, joins, has_either, has_or_same, rounds, table_in}
use Rattle.sparql_read.specs.Layout.{Node, Iri, Inverse, Seq, Alt, Star, Plus, Opt}

-- it is there, and is this name
abbrev pub is_name : Option (List ℕ) → List ℕ → Bool
is_name None name = false
is_name (Some own) name = bytes_eq own name

-- the triple's label has the name, and it has these ends
abbrev pub leads : List (List ℕ) → List ℕ → ℕ → ℕ → Triple → Bool
leads names name a b t = is_name (slice_get names t.label) name && (t.src == a) && (t.trg == b)

-- some triple does
abbrev pub is_edge : List (List ℕ) → List ℕ → List Triple → ℕ → ℕ → Bool
is_edge names name graph a b = list_any (leads names name a b) graph

-- the pair from b to a
abbrev pub has_back : List (ℕ × ℕ) → ℕ → ℕ → Bool
has_back pairs a b = has pairs b a

-- the pairs of a path
abbrev pub table_of : List (List ℕ) → List Triple → List ℕ → List (List (ℕ × ℕ)) → Node → List (ℕ × ℕ)
table_of names graph nodes tables (Iri name) = select (is_edge names name graph) nodes
table_of names graph nodes tables (Inverse p) = select (has_back (table_in tables p)) nodes
table_of names graph nodes tables (Seq p q) = select (joins nodes (table_in tables p) (table_in tables q)) nodes
table_of names graph nodes tables (Alt p q) = select (has_either (table_in tables p) (table_in tables q)) nodes
table_of names graph nodes tables (Star p) = rounds nodes (table_in tables p) (length nodes)
table_of names graph nodes tables (Plus p) = select (joins nodes (table_in tables p) (rounds nodes (table_in tables p) (length nodes))) nodes
table_of names graph nodes tables (Opt p) = select (has_or_same (table_in tables p)) nodes

-- the lists of the paths before it, and that of a path
abbrev pub with_table : List (List ℕ) → List Triple → List ℕ → List (List (ℕ × ℕ)) → Node → List (List (ℕ × ℕ))
with_table names graph nodes tables path = tables ++ table_of names graph nodes tables path ∷ []

-- the list of each path
abbrev pub tables_of : List (List ℕ) → List Triple → List ℕ → List Node → List (List (ℕ × ℕ))
tables_of names graph nodes paths = fold (with_table names graph nodes) [] paths

-- The conditions on what a text says, besides its grammar.
--   Header              a table as selects see it: its name, and the names of its columns
--   query_holds         what a select takes from, and the columns that it names
--   table_holds         a table behind earlier ones
--   last_hold           the selects of the last union
--   holds reading       all conditions of a text
use Rattle.std.specs.Prelude.{ℕ, Bool, true, false, not, if◌then◌else◌, ◌&&◌, ◌==◌, nat_le, bytes_eq, Option, Some, None, is_some, is_none, List, [], ◌∷◌, map, codes, length, suc}
use Rattle.std.specs.List.{list_all, list_any}
use Rattle.sql_read.specs.Grammar.{Col, Right, Column, Value, Equation, Source, Query, Table, Reading}

pub record Header : Type 0 where
  pub name : List ℕ
  pub columns : List (List ℕ)

-- the triples of the graph
abbrev pub edge_header : Header
edge_header = record { name = codes "edge"; columns = codes "src" ∷ codes "label" ∷ codes "trg" ∷ [] }

abbrev pub header_of : Table → Header
header_of t = record { name = t.name; columns = t.columns }

abbrev pub is_among : List ℕ → List (List ℕ) → Bool
is_among name names = list_any (λ other. bytes_eq other name) names

abbrev pub all_differ : List (List ℕ) → Bool
all_differ [] = true
all_differ (name ∷ names) = not (is_among name names) && all_differ names

-- the columns of the table with a name
abbrev pub columns_of : List Header → List ℕ → Option (List (List ℕ))
columns_of [] name = None
columns_of (h ∷ hs) name = if bytes_eq h.name name then Some h.columns else columns_of hs name

-- the columns of the table under an alias
abbrev pub columns_under : List Header → List Source → List ℕ → Option (List (List ℕ))
columns_under headers [] alias = None
columns_under headers (s ∷ ss) alias = if bytes_eq s.alias alias then columns_of headers s.table else columns_under headers ss alias

abbrev pub is_among_some : List ℕ → Option (List (List ℕ)) → Bool
is_among_some name None = false
is_among_some name (Some names) = is_among name names

-- the column is one of its alias's table
abbrev pub belongs : List Header → List Source → Col → Bool
belongs headers sources c = is_among_some c.column (columns_under headers sources c.alias)

abbrev pub right_belongs : List Header → List Source → Right → Bool
right_belongs headers sources (Column c) = belongs headers sources c
right_belongs headers sources (Value n) = true

abbrev pub equation_belongs : List Header → List Source → Equation → Bool
equation_belongs headers sources e = belongs headers sources e.left && right_belongs headers sources e.right

-- the table that a select takes from is there
abbrev pub is_there : List Header → Source → Bool
is_there headers s = is_some (columns_of headers s.table)

abbrev pub alias_of : Source → List ℕ
alias_of s = s.alias

-- the aliases of a select differ, it takes from tables that are there, and its columns are of its aliases' tables
abbrev pub query_holds : List Header → Query → Bool
query_holds headers q =
    (all_differ (map alias_of q.sources) && list_all (is_there headers) q.sources)
    && (list_all (belongs headers q.sources) q.columns && list_all (equation_belongs headers q.sources) q.equations)

-- how often a table is taken from
abbrev pub times_taken : List ℕ → List Source → ℕ
times_taken name [] = 0
times_taken name (s ∷ ss) = if bytes_eq s.table name then suc (times_taken name ss) else times_taken name ss

abbrev pub takes_once : List ℕ → Query → Bool
takes_once name q = nat_le (times_taken name q.sources) 1

-- the selects behind the first: the last of them sees the table itself, and takes from it at most once
abbrev pub later_hold : List Header → Header → List Query → Bool
later_hold earlier own [] = true
later_hold earlier own (q ∷ []) = query_holds (own ∷ earlier) q && takes_once own.name q
later_hold earlier own (q ∷ next ∷ more) = query_holds earlier q && later_hold earlier own (next ∷ more)

abbrev pub body_holds : List Header → Header → List Query → Bool
body_holds earlier own [] = true
body_holds earlier own (q ∷ more) = query_holds earlier q && later_hold earlier own more

abbrev pub has_width : ℕ → Query → Bool
has_width width q = length q.columns == width

-- the table's name is new, its columns differ, and each of its selects has as many and holds
abbrev pub table_holds : List Header → Table → Bool
table_holds earlier t =
    (is_none (columns_of earlier t.name) && all_differ t.columns)
    && (list_all (has_width (length t.columns)) t.body && body_holds earlier (header_of t) t.body)

abbrev pub tables_hold : List Header → List Table → Bool
tables_hold earlier [] = true
tables_hold earlier (t ∷ ts) = table_holds earlier t && tables_hold (header_of t ∷ earlier) ts

-- the headers of all tables, the newest first
abbrev pub headers_after : List Header → List Table → List Header
headers_after earlier [] = earlier
headers_after earlier (t ∷ ts) = headers_after (header_of t ∷ earlier) ts

-- the most columns of a select of the last union
abbrev pub last_most : ℕ
last_most = 4

-- the number of columns that the first select has
abbrev pub width_of : List Query → ℕ
width_of [] = 0
width_of (q ∷ qs) = length q.columns

-- the selects of the last union have one number of columns, at most four, and hold
abbrev pub last_hold : List Header → List Query → Bool
last_hold headers qs = (nat_le (width_of qs) last_most && list_all (has_width (width_of qs)) qs) && list_all (query_holds headers) qs

abbrev pub holds : Reading → Bool
holds r = tables_hold (edge_header ∷ []) r.tables && last_hold (headers_after (edge_header ∷ []) r.tables) r.last

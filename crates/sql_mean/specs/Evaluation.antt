-- The rows of selects and of tables as lists.
--   KnownValue                         a table that is made
--   rows_under known name              the rows of the table with the name
--   KnownAs known headers Has          these tables have these columns and rows
--   products known sources             one row of each source
--   select_list, union_list            the rows of a select, and of selects, with repeats
--   joined kept rows                   the rows that are kept, and each other row once
--   round_list known t k               the rows of a table after k rounds
--   IsTableList known t rows           the list of a table's rows
--   AreLevel rows                      all rows have one width, at most four
use Rattle.std.specs.Prelude.{◌≡◌, ◌↔◌, ◌≤◌, ℕ, zero, suc, Bool, ◌==◌, if◌then◌else◌, bytes_eq, MatchBool, List, [], ◌∷◌, ◌++◌, map, fold, length, Contains}
use Rattle.std.specs.Borrow.{Bor}
use Rattle.std.specs.List.{flat_map, list_all, list_any}
use Rattle.graph_text.specs.Rows.{row_most}
use Rattle.sql_read.specs.Grammar.{Source, Equation, Query, Table}
use Rattle.sql_read.specs.Conditions.{Header}
use Rattle.sql_read.specs.Kept.{AllFit}
use Rattle.sql_read.specs.View.{col_view, source_view, equation_view}
use Rattle.sql_read.specs.declared.query.Col.{Col}
use Rattle.sql_read.specs.declared.query.SqlFrom.{SqlFrom}
use Rattle.sql_read.specs.declared.query.Equation.{Equation as CodeEquation}
use Rattle.sql_mean.specs.Selects.{value_of, right_value, projected}
use Rattle.sql_mean.specs.Tables.{takes_itself, base, last_select}

-- a table with its name, its columns and its rows
pub record KnownValue : Type 0 where
  pub name : List ℕ
  pub columns : List (List ℕ)
  pub rows : List (List ℕ)

abbrev pub header_in : KnownValue → Header
header_in k = record { name = k.name; columns = k.columns }

-- the headers of the tables
abbrev pub headers_in : List KnownValue → List Header
headers_in known = map header_in known

-- the rows of the first table with the name
abbrev pub rows_under : List KnownValue → List ℕ → List (List ℕ)
rows_under [] name = []
rows_under (k ∷ known) name = if bytes_eq k.name name then k.rows else rows_under known name

-- the tables are these
pub record KnownAs (known : List KnownValue) (headers : List Header) (Has : List ℕ → List ℕ → Type 0) : Type 0 where
  pub columns : headers_in known ≡ headers
  pub rows : (name row : List ℕ) → Contains (rows_under known name) row ↔ Has name row

-- the numbers of a row
abbrev pub row_view : Bor (List ℕ) → List ℕ
row_view row = row.now

-- a row of the product so far with one row more
abbrev pub with_row : List (List ℕ) → List ℕ → List (List ℕ)
with_row product row = product ++ row ∷ []

-- with each row of a table
abbrev pub with_each : List (List ℕ) → List (List ℕ) → List (List (List ℕ))
with_each rows product = map (with_row product) rows

-- each row of the product so far with each row of a source
abbrev pub grow : List KnownValue → List (List (List ℕ)) → Source → List (List (List ℕ))
grow known products s = flat_map (with_each (rows_under known s.table)) products

-- from the row of no source
abbrev pub products : List KnownValue → List Source → List (List (List ℕ))
products known sources = fold (grow known) ([] ∷ []) sources

-- both sides are the same number
abbrev pub is_met : List Header → List Source → List (List ℕ) → Equation → Bool
is_met headers sources product e = value_of headers sources product e.left == right_value headers sources product e.right

-- the row, where the equations are met
abbrev pub if_met : List Header → Query → List (List ℕ) → List (List ℕ)
if_met headers q product = if list_all (is_met headers q.sources product) q.equations then projected headers q product ∷ [] else []

-- the select of these parts
abbrev pub query_of : List Col → List SqlFrom → List CodeEquation → Query
query_of columns froms equations = record { columns = map col_view columns; sources = map source_view froms; equations = map equation_view equations }

abbrev pub select_list : List KnownValue → Query → List (List ℕ)
select_list known q = flat_map (if_met (headers_in known) q) (products known q.sources)

abbrev pub union_list : List KnownValue → List Query → List (List ℕ)
union_list known queries = flat_map (select_list known) queries

-- a row that isn't there yet
abbrev pub join_row : List (List ℕ) → List ℕ → List (List ℕ)
join_row kept row = if list_any (bytes_eq row) kept then kept else kept ++ row ∷ []

abbrev pub joined : List (List ℕ) → List (List ℕ) → List (List ℕ)
joined kept rows = fold join_row kept rows

-- a table with the rows so far
abbrev pub so_far : Table → List (List ℕ) → KnownValue
so_far t rows = record { name = t.name; columns = t.columns; rows = rows }

-- at first the rows of the base, and in each round those of the last select over the rows so far
unfoldable pub round_list : List KnownValue → Table → ℕ → List (List ℕ)
round_list known t zero = joined [] (union_list known (base t))
round_list known t (suc k) = joined (round_list known t k) (union_list (so_far t (round_list known t k) ∷ known) (last_select t))

-- the rows of a round that the next one leaves as they are
pub record IsStableList (known : List KnownValue) (t : Table) (rows : List (List ℕ)) : Type 0 where
  pub round : ℕ
  pub rows_are : rows ≡ round_list known t round
  pub stable : round_list known t (suc round) ≡ round_list known t round

abbrev pub IsTableList : List KnownValue → Table → List (List ℕ) → Type 0
IsTableList known t rows = MatchBool (takes_itself t) (IsStableList known t rows) (rows ≡ joined [] (union_list known t.body))

-- how many numbers the first row has
abbrev pub width_of : List (List ℕ) → ℕ
width_of [] = 0
width_of (row ∷ rows) = length row

-- each row has as many numbers as the first, and no more than a row may have
pub record AreLevel (rows : List (List ℕ)) : Type 0 where
  pub few : width_of rows ≤ row_most
  pub all : AllFit (λ row. length row ≡ width_of rows) rows

-- The rows of tables.
--   With Has name IsRow                 the tables that are known, and one with this name and these rows
--   takes_itself t                      some select of the table takes from it
--   base t, last_select t               its selects but the last, and the last
--   InRound headers Has t k row         the row is in the table after k rounds
--   AddsNothing headers Has t k         the round after the k-th adds no row
--   IsStableRow headers Has t row       the row is in the table after a round from which on nothing is added
--   IsTableRow headers Has t row        the table has the row
--   After headers Has tables name row   the table with the name has the row, where these tables are made one after the other
use Rattle.std.specs.Prelude.{◌⊎◌, ◌-◌, ℕ, zero, suc, Bool, bytes_eq, MatchBool, List, [], ◌∷◌, length, take, drop}
use Rattle.std.specs.List.{list_any}
use Rattle.sql_read.specs.Grammar.{Source, Query, Table}
use Rattle.sql_read.specs.Conditions.{Header, header_of}
use Rattle.sql_mean.specs.Selects.{IsUnionRow}

-- the rows under the name, and under any other name those that are known
abbrev pub With : (List ℕ → List ℕ → Type 0) → List ℕ → (List ℕ → Type 0) → List ℕ → List ℕ → Type 0
With Has name IsRow other row = MatchBool (bytes_eq name other) (IsRow row) (Has other row)

-- the source is the table with the name
abbrev pub is_of : List ℕ → Source → Bool
is_of name s = bytes_eq s.table name

-- the select takes from the table with the name
abbrev pub takes_from : List ℕ → Query → Bool
takes_from name q = list_any (is_of name) q.sources

-- one of its selects takes from it
abbrev pub takes_itself : Table → Bool
takes_itself t = list_any (takes_from t.name) t.body

-- its selects but the last
abbrev pub base : Table → List Query
base t = take (length t.body - 1) t.body

-- its last select, in a list
abbrev pub last_select : Table → List Query
last_select t = drop (length t.body - 1) t.body

-- at first the rows of the base, and in each round those of the last select over the rows so far
abbrev pub InRound : List Header → (List ℕ → List ℕ → Type 0) → Table → ℕ → List ℕ → Type 0
InRound headers Has t zero row = IsUnionRow headers Has (base t) row
InRound headers Has t (suc k) row =
    InRound headers Has t k row ⊎ IsUnionRow (header_of t ∷ headers) (With Has t.name (InRound headers Has t k)) (last_select t) row

-- each row of the next round is there already
abbrev pub AddsNothing : List Header → (List ℕ → List ℕ → Type 0) → Table → ℕ → Type 0
AddsNothing headers Has t k = (row : List ℕ) → InRound headers Has t (suc k) row → InRound headers Has t k row

-- a row of a round after which nothing is added
pub record IsStableRow (headers : List Header) (Has : List ℕ → List ℕ → Type 0) (t : Table) (row : List ℕ) : Type 0 where
  pub round : ℕ
  pub stable : AddsNothing headers Has t round
  pub is_row : InRound headers Has t round row

-- in rounds where it takes from itself, and else the union of its selects
abbrev pub IsTableRow : List Header → (List ℕ → List ℕ → Type 0) → Table → List ℕ → Type 0
IsTableRow headers Has t row = MatchBool (takes_itself t) (IsStableRow headers Has t row) (IsUnionRow headers Has t.body row)

-- each table is made over those before it
abbrev pub After : List Header → (List ℕ → List ℕ → Type 0) → List Table → List ℕ → List ℕ → Type 0
After headers Has [] = Has
After headers Has (t ∷ tables) = After (header_of t ∷ headers) (With Has t.name (IsTableRow headers Has t)) tables

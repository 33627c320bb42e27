-- The rows of selects, over tables that are known by their names.
--   headers                                     the columns of the tables
--   Has name row                                the table with the name has the row
--   IsProduct Has sources product               one row of each source, in their order
--   value_of headers sources product column     the number that a row of the product has in a column
--   Meets headers sources product equation      a row of the product meets an equation
--   IsSelectRow headers Has query row           the product, filtered by the equations and projected on the columns
--   IsUnionRow headers Has queries row          a row of some select
-- A column that isn't there would have the number 0: the conditions of a text exclude it.
use Rattle.std.specs.Prelude.{◌≡◌, ℕ, if◌then◌else◌, bytes_eq, Option, Some, None, List, [], ◌∷◌, map, Contains, ⊤}
use Rattle.std.specs.List.{AllByRecursion}
use Rattle.sql_read.specs.Grammar.{Col, Right, Column, Value, Equation, Source, Query}
use Rattle.sql_read.specs.Conditions.{Header, columns_of}

-- one row of the table of each source
abbrev pub IsProduct : (List ℕ → List ℕ → Type 0) → List Source → List (List ℕ) → Type 0
IsProduct Has [] [] = ⊤
IsProduct Has [] (row ∷ product) = ⊥
IsProduct Has (s ∷ sources) [] = ⊥
IsProduct Has (s ∷ sources) (row ∷ product) = Has s.table row × IsProduct Has sources product

-- the number at the place of a column's name
abbrev pub value_in : List (List ℕ) → List ℕ → List ℕ → ℕ
value_in [] row name = 0
value_in (column ∷ columns) [] name = 0
value_in (column ∷ columns) (n ∷ row) name = if bytes_eq column name then n else value_in columns row name

-- the same where the columns are known
abbrev pub value_under : Option (List (List ℕ)) → List ℕ → List ℕ → ℕ
value_under None row name = 0
value_under (Some columns) row name = value_in columns row name

-- the number in the column of the row under the column's alias
abbrev pub value_of : List Header → List Source → List (List ℕ) → Col → ℕ
value_of headers [] product c = 0
value_of headers (s ∷ sources) [] c = 0
value_of headers (s ∷ sources) (row ∷ product) c =
    if bytes_eq s.alias c.alias then value_under (columns_of headers s.table) row c.column else value_of headers sources product c

-- the number in a column, or the number itself
abbrev pub right_value : List Header → List Source → List (List ℕ) → Right → ℕ
right_value headers sources product (Column c) = value_of headers sources product c
right_value headers sources product (Value n) = n

-- both sides are the same number
abbrev pub Meets : List Header → List Source → List (List ℕ) → Equation → Type 0
Meets headers sources product e = value_of headers sources product e.left ≡ right_value headers sources product e.right

-- the numbers in the columns; a select of `1` has the row of no number
abbrev pub projected : List Header → Query → List (List ℕ) → List ℕ
projected headers q product = map (value_of headers q.sources product) q.columns

-- a row of the product that meets each equation gives the row
pub record IsSelectRow (headers : List Header) (Has : List ℕ → List ℕ → Type 0) (q : Query) (row : List ℕ) : Type 0 where
  pub product : List (List ℕ)
  pub picked : IsProduct Has q.sources product
  pub meets : AllByRecursion (Meets headers q.sources product) q.equations
  pub row_is : row ≡ projected headers q product

-- a row of one of the selects
abbrev pub IsUnionRow : List Header → (List ℕ → List ℕ → Type 0) → List Query → List ℕ → Type 0
IsUnionRow headers Has queries row = (q : Query) × Contains queries q × IsSelectRow headers Has q row

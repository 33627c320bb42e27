-- The lists that are kept of a text, and what the text says by its parts of them.
use Rattle.std.specs.Prelude.{◌≤◌, ℕ, ◌+◌, List, [], ◌∷◌, map, take, drop, length, ⊤}
use Rattle.std.specs.Borrow.{Bor}
use Rattle.gm_text.specs.declared.lists.Span.{Span}
use Rattle.sql_read.specs.Grammar as said
use Rattle.sql_read.specs.View.{col_view, source_view, equation_view, name_view}
use Rattle.sql_read.specs.declared.query.Col.{Col}
use Rattle.sql_read.specs.declared.query.SqlFrom.{SqlFrom}
use Rattle.sql_read.specs.declared.query.Equation.{Equation}
use Rattle.sql_read.specs.declared.query.Select.{Select}
use Rattle.sql_read.specs.declared.query.Table.{Table}

pub record Kept : Type 0 where
  pub columns : List Col
  pub froms : List SqlFrom
  pub equations : List Equation
  pub names : List (Bor (List ℕ))
  pub selects : List Select
  pub tables : List Table

-- the part of a list
abbrev pub cut : {A : Type 0} → List A → Span → List A
cut xs span = take span.count (drop span.first xs)

-- the part lies within the list
abbrev pub IsWithin : {A : Type 0} → List A → Span → Type 0
IsWithin xs span = span.first + span.count ≤ length xs

abbrev pub AllFit : {A : Type 0} → (A → Type 0) → List A → Type 0
AllFit Fits [] = ⊤
AllFit Fits (x ∷ xs) = Fits x × AllFit Fits xs

abbrev pub cols_in : Span → Kept → List said.Col
cols_in span kept = map col_view (cut kept.columns span)

abbrev pub sources_in : Span → Kept → List said.Source
sources_in span kept = map source_view (cut kept.froms span)

abbrev pub equations_in : Span → Kept → List said.Equation
equations_in span kept = map equation_view (cut kept.equations span)

abbrev pub names_in : Span → Kept → List (List ℕ)
names_in span kept = map name_view (cut kept.names span)

-- what a select says
abbrev pub query_in : Select → Kept → said.Query
query_in s kept = record { columns = cols_in s.columns kept; sources = sources_in s.tables kept; equations = equations_in s.equations kept }

-- its parts lie within the lists
pub record QueryFits (s : Select) (kept : Kept) : Type 0 where
  pub columns : IsWithin kept.columns s.columns
  pub tables : IsWithin kept.froms s.tables
  pub equations : IsWithin kept.equations s.equations

abbrev pub union_in : Span → Kept → List said.Query
union_in span kept = map (λ s. query_in s kept) (cut kept.selects span)

pub record UnionFits (span : Span) (kept : Kept) : Type 0 where
  pub within : IsWithin kept.selects span
  pub all : AllFit (λ s. QueryFits s kept) (cut kept.selects span)

abbrev pub table_in : Table → Kept → said.Table
table_in t kept = record { name = t.name.now; columns = names_in t.columns kept; body = union_in t.body kept }

pub record TableFits (t : Table) (kept : Kept) : Type 0 where
  pub names : IsWithin kept.names t.columns
  pub body : UnionFits t.body kept

-- what the text says whose last union is a part of the selects
abbrev pub reading_in : Span → Kept → said.Reading
reading_in last kept = record { tables = map (λ t. table_in t kept) kept.tables; last = union_in last kept }

pub record ReadingFits (last : Span) (kept : Kept) : Type 0 where
  pub tables : AllFit (λ t. TableFits t kept) kept.tables
  pub union : UnionFits last kept

-- What the checks of a table answer, in the words of the conditions.
use Rattle.std.specs.Prelude.{◌≡◌, ℕ, Bool, ◌==◌, List, [], ◌∷◌, map, length}
use Rattle.std.specs.List.{list_all}
use Rattle.gm_text.specs.declared.lists.Span.{Span}
use Rattle.sql_read.specs.declared.lists.Lists.{Lists}
use Rattle.sql_read.specs.declared.query.Select.{Select}
use Rattle.sql_read.specs.declared.query.Table.{Table}
use Rattle.sql_read.specs.declared.scope.Scope.{Scope}
use Rattle.sql_read.specs.Grammar.{Query}
use Rattle.sql_read.specs.Conditions.{Header, header_of, query_holds, table_holds, last_hold}
use Rattle.sql_read.specs.Kept.{Kept, query_in, union_in, table_in}
use Rattle.sql_read.specs.Parsed.{kept_of}
use Rattle.sql_read.specs.Scope.{Knows}

abbrev pub queries_in : Kept → List Select → List Query
queries_in kept selects = map (λ s. query_in s kept) selects

abbrev pub spans_width : ℕ → Select → Bool
spans_width width s = s.columns.count == width

abbrev pub first_width : List Select → ℕ
first_width [] = 0
first_width (s ∷ ss) = s.columns.count

-- the answer on a table behind those that the scope knows
abbrev pub TableIs : Scope → ℕ → Lists → Table → Bool → Type 0
TableIs scope number lists table answer =
    (headers : List Header) → Knows scope headers → number ≡ length headers → answer ≡ table_holds headers (table_in table (kept_of lists))

-- the scope knows the table too
abbrev pub TableAdded : Scope → Scope → ℕ → Lists → Table → Type 0
TableAdded old new number lists table =
    (headers : List Header) → Knows old headers → number ≡ length headers → Knows new (header_of (table_in table (kept_of lists)) ∷ headers)

-- the answer on a select, on more, and on the last union
abbrev pub QueryIs : Scope → Lists → Select → Bool → Type 0
QueryIs scope lists select answer =
    (headers : List Header) → Knows scope headers → answer ≡ query_holds headers (query_in select (kept_of lists))

abbrev pub QueriesAre : Scope → Lists → List Select → Bool → Type 0
QueriesAre scope lists selects answer =
    (headers : List Header) → Knows scope headers → answer ≡ list_all (query_holds headers) (queries_in (kept_of lists) selects)

abbrev pub LastIs : Scope → Lists → Span → Bool → Type 0
LastIs scope lists last answer =
    (headers : List Header) → Knows scope headers → answer ≡ last_hold headers (union_in last (kept_of lists))

-- What is found by name while the conditions of a text are checked.
use Rattle.std.specs.Prelude.{◌≡◌, ℕ, Bool, true, false, ◌==◌, ◌&&◌, ◌||◌, if◌then◌else◌, bytes_eq, Option, Some, None, is_some, is_none, MatchOption, List, [], ◌∷◌, map, length}
use Rattle.std.specs.List.{list_all}
use Rattle.std.specs.Borrow.{Bor}
use Rattle.indexmap.specs.IndexMap.{IndexMap, get_by}
use Rattle.indexmap.specs.IndexSet.{contains_by}
use Rattle.sql_read.specs.declared.query.Col.{Col}
use Rattle.sql_read.specs.declared.query.Right.{Right}
use Rattle.sql_read.specs.declared.query.Right.TheVariants.{Column, Number}
use Rattle.sql_read.specs.declared.query.Equation.{Equation}
use Rattle.sql_read.specs.declared.query.SqlFrom.{SqlFrom}
use Rattle.sql_read.specs.declared.scope.Scope.{Scope}
use Rattle.sql_read.specs.View.{name_view}
use Rattle.sql_read.specs.Conditions.{Header, is_among, all_differ, columns_of}

-- the number under a name in a map
abbrev pub found_in : {S : Type 0} → IndexMap (Bor (List ℕ)) ℕ S → Bor (List ℕ) → Option ℕ
found_in m name = get_by (λ k. bytes_eq name.now k.now) m

-- the number of the table with a name
abbrev pub number_in : Scope → Bor (List ℕ) → Option ℕ
number_in scope name = found_in scope.tables name

-- the table with a number has a column with a name
abbrev pub has_in : Scope → ℕ → Bor (List ℕ) → Bool
has_in scope number name = contains_by (λ k. (number == k.0) && bytes_eq name.now k.1.now) scope.columns

-- a table's number is how many are older
abbrev pub number_of : List Header → List ℕ → Option ℕ
number_of [] name = None
number_of (h ∷ hs) name = if bytes_eq h.name name then Some (length hs) else number_of hs name

abbrev pub has_column : List Header → ℕ → List ℕ → Bool
has_column [] number name = false
has_column (h ∷ hs) number name = if length hs == number then is_among name h.columns else has_column hs number name

-- all tables and columns are found, and nothing else
pub record Knows (scope : Scope) (headers : List Header) : Type 0 where
  pub numbers : (name : Bor (List ℕ)) → number_in scope name ≡ number_of headers name.now
  pub columns : (number : ℕ) (name : Bor (List ℕ)) → has_in scope number name ≡ has_column headers number name.now

-- there are tables that the scope knows, so many
pub record IsScope (scope : Scope) (number : ℕ) : Type 0 where
  pub headers : List Header
  pub knows : Knows scope headers
  pub many : number ≡ length headers

abbrev pub header : Bor (List ℕ) → List (Bor (List ℕ)) → Header
header name names = record { name = name.now; columns = map name_view names }

-- the columns of one table were added
abbrev pub HasAdded : Scope → Scope → ℕ → List (Bor (List ℕ)) → Type 0
HasAdded old new number names =
    (n : ℕ) (name : Bor (List ℕ)) → has_in new n name ≡ (((number == n) && is_among name.now (map name_view names)) || has_in old n name)

-- the number of the table under an alias
abbrev pub number_under : Scope → List SqlFrom → Bor (List ℕ) → Option ℕ
number_under scope [] alias = None
number_under scope (s ∷ ss) alias = if bytes_eq s.alias.now alias.now then number_in scope s.table else number_under scope ss alias

abbrev pub is_known : Scope → SqlFrom → Bool
is_known scope s = is_some (number_in scope s.table)

abbrev pub alias_in : SqlFrom → List ℕ
alias_in s = s.alias.now

-- the aliases differ, and their tables are known
abbrev pub froms_hold : Scope → List SqlFrom → Bool
froms_hold scope froms = all_differ (map alias_in froms) && list_all (is_known scope) froms

-- a map gives the number of the table under each alias
abbrev pub IsUnder : {S : Type 0} → Scope → List SqlFrom → IndexMap (Bor (List ℕ)) ℕ S → Type 0
IsUnder scope froms aliases = (alias : Bor (List ℕ)) → found_in aliases alias ≡ number_under scope froms alias

abbrev pub has_in_some : Scope → Option ℕ → Bor (List ℕ) → Bool
has_in_some scope None name = false
has_in_some scope (Some number) name = has_in scope number name

-- a column is one of the table under its alias, whose number is found
abbrev pub col_found : Scope → (Bor (List ℕ) → Option ℕ) → Col → Bool
col_found scope found c = has_in_some scope (found c.alias) c.column

abbrev pub right_found : Scope → (Bor (List ℕ) → Option ℕ) → Right → Bool
right_found scope found (Column c) = col_found scope found c
right_found scope found (Number n) = true

abbrev pub equation_found : Scope → (Bor (List ℕ) → Option ℕ) → Equation → Bool
equation_found scope found e = col_found scope found e.left && right_found scope found e.right

-- the answer on a new table: its name is new, and its columns differ
abbrev pub IsNewTable : Scope → Bor (List ℕ) → List (Bor (List ℕ)) → Bool → Type 0
IsNewTable scope name names answer =
    (headers : List Header) → Knows scope headers → answer ≡ (is_none (columns_of headers name.now) && all_differ (map name_view names))

-- the scope knows the new table too
abbrev pub HasNewTable : Scope → Scope → ℕ → Bor (List ℕ) → List (Bor (List ℕ)) → Type 0
HasNewTable old new number name names =
    (headers : List Header) → Knows old headers → number ≡ length headers → Knows new (header name names ∷ headers)

-- a map that finds the tables under the aliases, which hold, or none where they don't
abbrev pub FindsAliases : {S : Type 0} → Scope → List SqlFrom → Option (IndexMap (Bor (List ℕ)) ℕ S) → Type 0
FindsAliases scope froms found =
    MatchOption found (froms_hold scope froms ≡ false) (λ aliases. (froms_hold scope froms ≡ true) × IsUnder scope froms aliases)

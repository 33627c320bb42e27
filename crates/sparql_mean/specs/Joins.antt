-- The rows of a query as a list, by mappings that grow by one pattern after the other.
--   fits_pair u v m p                 the mapping can have the numbers of the pair for two variables
--   grown u v pairs m                 the mapping with each pair that fits
--   mappings tables patterns          the mappings for all patterns of a group
--   value m x, values m xs            the number of a variable, and those of variables
--   group_rows, rows_of               the rows of a group, and of groups
use Rattle.std.specs.Prelude.{ℕ, Bool, not, ◌==◌, ◌&&◌, ◌||◌, if◌then◌else◌, Option, Some, None, List, [], ◌∷◌, ◌++◌, map, fold, take, drop, bytes_eq}
use Rattle.std.specs.List.{flat_map, list_all}
use Rattle.std.specs.Option.{option_to_list}
use Rattle.gm_text.specs.declared.lists.Span.{Span}
use Rattle.node_tables.specs.Tables.{table_in}
use Rattle.sparql_read.specs.Layout.{Entry, Lists}
use Rattle.sparql_mean.specs.Mappings.{Mapping}
use denote.Ref.{Bor}

-- entries with the bytes of their variables
abbrev pub entry_of : Bor (List ℕ) × ℕ → List ℕ × ℕ
entry_of e = (e.0.now, e.1)

abbrev pub mapping_of : List (Bor (List ℕ) × ℕ) → Mapping
mapping_of entries = map entry_of entries

-- the entry is of another variable, or has this number
abbrev pub agrees : List ℕ → ℕ → List ℕ × ℕ → Bool
agrees x a e = not (bytes_eq e.0 x) || (e.1 == a)

-- the variable has no other number
abbrev pub fits : Mapping → List ℕ → ℕ → Bool
fits m x a = list_all (agrees x a) m

-- neither variable has another number, and they have the same one where they are the same
abbrev pub fits_pair : List ℕ → List ℕ → Mapping → ℕ × ℕ → Bool
fits_pair u v m p = fits m u p.0 && (fits m v p.1 && agrees v p.1 (u, p.0))

-- the numbers of the pair for two variables more
abbrev pub with_pair : List ℕ → List ℕ → Mapping → ℕ × ℕ → Mapping
with_pair u v m p = m ++ (u, p.0) ∷ (v, p.1) ∷ []

-- with the pair, where it fits
abbrev pub if_fits : List ℕ → List ℕ → Mapping → ℕ × ℕ → List Mapping
if_fits u v m p = if fits_pair u v m p then with_pair u v m p ∷ [] else []

-- with each pair that fits
abbrev pub grown : List ℕ → List ℕ → List (ℕ × ℕ) → Mapping → List Mapping
grown u v pairs m = flat_map (if_fits u v m) pairs

-- each mapping with each pair of a pattern that fits
abbrev pub grow : List (List (ℕ × ℕ)) → List Mapping → Entry → List Mapping
grow tables ms e = flat_map (grown e.subject e.object (table_in tables e.path)) ms

-- from the mapping of no variable
abbrev pub mappings : List (List (ℕ × ℕ)) → List Entry → List Mapping
mappings tables patterns = fold (grow tables) ([] ∷ []) patterns

-- the number of a variable, if it has one
unfoldable pub value : Mapping → List ℕ → Option ℕ
value [] x = None
value (e ∷ m) x = if bytes_eq e.0 x then Some e.1 else value m x

-- a number before others, where all are there
abbrev pub before : Option ℕ → Option (List ℕ) → Option (List ℕ)
before (Some n) (Some row) = Some (n ∷ row)
before a b = None

-- the numbers of variables, where each has one
abbrev pub values : Mapping → List (List ℕ) → Option (List ℕ)
values m [] = Some []
values m (x ∷ xs) = before (value m x) (values m xs)

-- the row of a mapping, if it has one
abbrev pub row_of : List (List ℕ) → Mapping → List (List ℕ)
row_of heads m = option_to_list (values m heads)

-- the patterns of a group
abbrev pub patterns_of : List Entry → Span → List Entry
patterns_of patterns group = take group.count (drop group.first patterns)

-- a row of each mapping that has one
abbrev pub group_rows : List (List (ℕ × ℕ)) → List (List ℕ) → List Entry → Span → List (List ℕ)
group_rows tables heads patterns group = flat_map (row_of heads) (mappings tables (patterns_of patterns group))

-- the rows of the groups, with repeats
abbrev pub rows_of : List (List (ℕ × ℕ)) → Lists → List (List ℕ)
rows_of tables lists = flat_map (group_rows tables lists.variables lists.patterns) lists.groups

-- What the lists of a query stand for.
use Rattle.std.specs.Prelude.{◌≡◌, ◌≤◌, ◌+◌, ⊤, ℕ, Bool, ◌||◌, List, [], ◌∷◌, length, map, bytes_eq, Some, IfSome, slice_get}
use Rattle.std.specs.List.{list_all, list_any}
use Rattle.gm_text.specs.declared.lists.Span.{Span}
use Rattle.sparql_read.specs.Layout.{Node, Entry, Lists}
use Rattle.sparql_read.specs.Layout as laid
use Rattle.sparql_read.specs.declared.paths.Path as code
use Rattle.sparql_read.specs.declared.paths.Path.TheVariants as paths
use Rattle.sparql_read.specs.declared.query.Pattern.{Pattern}
use denote.Ref.{Bor}

-- a path, with the numbers of its parts
abbrev pub node_view : code.Path → Node
node_view (paths.Iri name) = laid.Iri name.now
node_view (paths.Inverse p) = laid.Inverse p.0
node_view (paths.Seq p q) = laid.Seq p.0 q.0
node_view (paths.Alt p q) = laid.Alt p.0 q.0
node_view (paths.Star p) = laid.Star p.0
node_view (paths.Plus p) = laid.Plus p.0
node_view (paths.Opt p) = laid.Opt p.0

-- a pattern, with the bytes of its variables and the number of its path
abbrev pub entry_view : Pattern → Entry
entry_view p = record { subject = p.subject.now; path = p.path.0; object = p.object.now }

-- the bytes of each name
abbrev pub texts : List (Bor (List ℕ)) → List (List ℕ)
texts names = map (λ name. name.now) names

-- each pattern so
abbrev pub entries_view : List Pattern → List Entry
entries_view ps = map entry_view ps

-- each path so
abbrev pub nodes_view : List code.Path → List Node
nodes_view ps = map node_view ps

-- a query's lists
abbrev pub lists_view : List (Bor (List ℕ)) → List Span → List Pattern → List code.Path → Lists
lists_view variables groups patterns paths =
    record { variables = texts variables; groups = groups; patterns = entries_view patterns; paths = nodes_view paths }

-- each group is within a list of so many patterns
abbrev pub AreWithin : ℕ → List Span → Type 0
AreWithin n [] = ⊤
AreWithin n (s ∷ ss) = (s.first + s.count ≤ n) × AreWithin n ss

-- no list is long, and each group is within the list of patterns
pub record AreFew (lists : Lists) : Type 0 where
  pub variables : length lists.variables ≤ 4
  pub within : AreWithin (length lists.patterns) lists.groups
  pub groups : length lists.groups ≤ 16777216
  pub patterns : length lists.patterns ≤ 16777216
  pub paths : length lists.paths ≤ 16777216

-- the pattern at a place of a group
abbrev pub HasPattern : Lists → ℕ → ℕ → Entry → Type 0
HasPattern lists g i entry =
    IfSome (slice_get lists.groups g) (λ group. slice_get lists.patterns (group.first + i) ≡ Some entry)

-- a variable is one of the pattern's two
abbrev pub is_end_of_entry : List ℕ → Entry → Bool
is_end_of_entry x e = bytes_eq x e.subject || bytes_eq x e.object

-- a variable is in one of the patterns
abbrev pub occurs_in_entries : List ℕ → List Entry → Bool
occurs_in_entries x es = list_any (is_end_of_entry x) es

-- each of the variables is
abbrev pub entries_have_all : List (List ℕ) → List Entry → Bool
entries_have_all xs es = list_all (λ x. occurs_in_entries x es) xs

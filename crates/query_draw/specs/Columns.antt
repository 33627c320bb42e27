-- Matrices by columns of bits, and what is joined with their entries.
--   has set i                     whether a number is in a set: whether its bit is set
--   is_growing kind               a kind of a type of which there are more in greater graphs
--   AreGrowing kinds set          a set has just the growing types
--   is_at_least op e              an entry is there, and at least an operator
--   Tells c i e                   a column has the entry e from type i
--   FirstColumns n m cs f         the first m of n columns have the entries f
--   AreColumns n cs f             so has each of them
--   shown filled cs               the columns to the types of a set, and no entries to others
--   equal_column t                `Equal` from one type
--   joined_column a b             the joins of the entries of two columns
--   followed_column c op          the compositions of the entries with an operator
--   normal_column c growing to    their normal forms, to a kind
--   AreJoined old others new m    the first m columns are joined with others
--   told_op less greater cross    the operator of an entry that is there
--   edge_column g growing s a     the paths of a matrix and then along the edge of a symbol
--   JoinsEdge, JoinsSymbol        they are joined with a matrix, and a matrix is the product with that of a symbol
--   labelled edges label          the numbers of the edges with a label
use Rattle.std.specs.Prelude.{◌≡◌, ℕ, ◌<◌, ◌≤◌, ◌==◌, ◌*◌, ◌%◌, ◌^◌, Bool, true, false, if◌then◌else◌, Option, Some, None, List, [], ◌∷◌, length, map, filter, slice_index_or, slice_set}
use Rattle.std.specs.List.{range_with_len}
use Rattle.std.specs.Int.{bit_at, bit_not, w64}
use Rattle.std.specs.Int.RustNames.{bit_and, bit_or}
use Rattle.sel_algebra.specs.declared.vocabulary.Op.{Op}
use Rattle.sel_algebra.specs.declared.vocabulary.Op.TheVariants.{Equal, Less, Greater, Diamond, Cross}
use Rattle.sel_algebra.specs.declared.vocabulary.Kind.{Kind}
use Rattle.sel_algebra.specs.declared.vocabulary.Kind.TheVariants.{Fixed, Growing}
use Rattle.sel_algebra.specs.declared.vocabulary.Symbol.{Symbol}
use Rattle.sel_algebra.specs.Operators.{at_most}
use Rattle.sel_algebra.specs.Table.{Table, kind_at, entry, times_of}
use Rattle.schema_graph.specs.declared.edge.SchemaEdge.{SchemaEdge}
use Rattle.schema_graph.specs.Edge.{edge_at, start_of, end_of, op_of}
use Rattle.schema_graph.specs.Schema.{SchemaValue}
use Rattle.query_draw.specs.declared.columns.Column.{Column}
use Rattle.query_draw.specs.Wide.{symbol_matrix}

-- whether a number is in a set: whether its bit is set
abbrev pub has : ℕ → ℕ → Bool
has set i = bit_at set i == 1

-- a kind of a type of which there are more in greater graphs
abbrev pub is_growing : Kind → Bool
is_growing Fixed = false
is_growing Growing = true

-- a set has just the growing types
abbrev pub AreGrowing : List Kind → ℕ → Type 0
AreGrowing kinds set = (i : ℕ) → i < length kinds → has set i ≡ is_growing (kind_at kinds i)

-- an entry is there, and at least an operator
abbrev pub is_at_least : Op → Option Op → Bool
is_at_least op None = false
is_at_least op (Some x) = at_most op x

-- a column has the entry e from type i
pub record Tells (c : Column) (i : ℕ) (e : Option Op) : Type 0 where
  pub there : has c.there i ≡ is_at_least Equal e
  pub less : has c.less i ≡ is_at_least Less e
  pub greater : has c.greater i ≡ is_at_least Greater e
  pub cross : has c.cross i ≡ is_at_least Cross e

-- the column with no entries
abbrev pub no_column : Column
no_column = record { there = 0; less = 0; greater = 0; cross = 0 }

-- no entry between any two types
abbrev pub no_entry : ℕ → ℕ → Option Op
no_entry i j = None

-- the column of the entries to type j
abbrev pub column_at : List Column → ℕ → Column
column_at cs j = slice_index_or cs j no_column

-- the first m of n columns have the entries f
pub record FirstColumns (n m : ℕ) (cs : List Column) (f : ℕ → ℕ → Option Op) : Type 0 where
  pub whole : length cs ≡ n
  pub each : (i j : ℕ) → i < n → j < m → Tells (column_at cs j) i (f i j)

-- each of n columns has the entries f
abbrev pub AreColumns : ℕ → List Column → (ℕ → ℕ → Option Op) → Type 0
AreColumns n = FirstColumns n n

-- the columns to the types of a set, and no entries to others
abbrev pub shown : ℕ → List Column → List Column
shown filled cs = map (λ j. if has filled j then column_at cs j else no_column) (range_with_len 0 (length cs))

-- the column with `Equal` from one type
abbrev pub equal_column : ℕ → Column
equal_column t = record { there = 1 * 2 ^ t % 2 ^ 64; less = 0; greater = 0; cross = 0 }

-- the joins of the entries of two columns
abbrev pub joined_column : Column → Column → Column
joined_column a b = record { there = bit_or a.there b.there; less = bit_or a.less b.less; greater = bit_or a.greater b.greater; cross = bit_or a.cross b.cross }

-- the compositions of the entries of a column with an operator
abbrev pub followed_column : Column → Op → Column
followed_column c Equal = c
followed_column c Less = record { there = c.there; less = c.there; greater = c.greater; cross = c.greater }
followed_column c Greater = record { there = c.there; less = c.less; greater = c.there; cross = c.cross }
followed_column c Diamond = record { there = c.there; less = c.there; greater = c.there; cross = c.greater }
followed_column c Cross = record { there = c.there; less = c.there; greater = c.there; cross = c.there }

-- the normal forms of the entries of a column to a type of a kind, by the set of the growing types
abbrev pub normal_column : Column → ℕ → Kind → Column
normal_column c growing Fixed = record { there = c.there; less = 0; greater = bit_and c.there growing; cross = 0 }
normal_column c growing Growing = record {
  there = c.there;
  less = bit_or (bit_and c.less growing) (bit_and c.there (bit_not w64 growing));
  greater = bit_and c.greater growing;
  cross = bit_and c.cross growing;
}

-- the first m columns are joined with others, and the rest stay
pub record AreJoined (old others new : List Column) (m : ℕ) : Type 0 where
  pub whole : length new ≡ length old
  pub joined : (j : ℕ) → j < m → column_at new j ≡ joined_column (column_at old j) (column_at others j)
  pub rest : (j : ℕ) → m ≤ j → column_at new j ≡ column_at old j

-- the operator that is at least `Less`, `Greater` and `Cross` as said
abbrev pub told_op : Bool → Bool → Bool → Op
told_op less greater true = Cross
told_op true true false = Diamond
told_op true false false = Less
told_op false true false = Greater
told_op false false false = Equal

-- the paths of a matrix and then along the edge of a symbol
abbrev pub edge_column : SchemaValue → ℕ → Symbol → List Column → Column
edge_column g growing s a = normal_column (followed_column (column_at a (start_of g.edges s)) (op_of g.edges s)) growing (kind_at g.kinds (end_of g.edges s))

-- they are joined with a matrix
abbrev pub JoinsEdge : SchemaValue → ℕ → Symbol → List Column → List Column → List Column → Type 0
JoinsEdge g growing s a old new = new ≡ slice_set old (end_of g.edges s) (joined_column (column_at old (end_of g.edges s)) (edge_column g growing s a))

-- a matrix is the product of another one with that of a symbol
abbrev pub JoinsSymbol : SchemaValue → Symbol → List Column → List Column → Type 0
JoinsSymbol g s a new =
    (t : Table) → t.kinds ≡ g.kinds → AreColumns (length g.kinds) a (entry t) → AreColumns (length g.kinds) new (entry (times_of t (symbol_matrix g s)))

-- an edge with a number has a label
abbrev pub has_label : List SchemaEdge → ℕ → ℕ → Bool
has_label edges label e = (edge_at edges e).label == label

-- the numbers of the edges with a label
abbrev pub labelled : List SchemaEdge → ℕ → List ℕ
labelled edges label = filter (has_label edges label) (range_with_len 0 (length edges))

-- the number of an edge, if it is wanted
abbrev pub edge_if : Bool → ℕ → List ℕ
edge_if wanted edge = if wanted then edge ∷ [] else []

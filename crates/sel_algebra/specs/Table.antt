-- Matrices of operators over a list of types, and their product and join.
--   types_most                   the most types of a matrix
--   Table                        the kinds of the types, and the entries row by row
--   laid_out kinds cells         the table with these
--   kind_at kinds i              the kind of type i
--   entry t i j                  the entry from type i to type j
--   EachPair kinds P             what holds of each two types
--   first_cells, row_of          the first entries, and a row, of the table with the entry f i j from i to j
--   table_of kinds f             that table
--   IsMatrix t                   few types, and a normal entry between each two
--   zero_of kinds                nothing everywhere
--   one_of kinds                 `Equal` from each type to itself: the entries one_at
--   through a b i j k            the path from i to j by way of k
--   times_of a b                 the product: the entries product_at
--   plus_of a b                  the join entry by entry: the entries sum_at
--   path_of, product_row, product_cells, sum_cells   the same of matrices over the same types, by their entries
--   JoinsEach old new f          a row whose entries are joined with those of f
--   SetsEntry old new i j op     one entry becomes the normal form of an operator
--   HasNoEntries t               nothing everywhere
use Rattle.std.specs.Prelude.{◌≡◌, ℕ, ◌+◌, ◌*◌, ◌/◌, ◌%◌, ◌<◌, ◌≤◌, ◌==◌, if◌then◌else◌, Option, Some, None, List, length, map, slice_index_or}
use Rattle.std.specs.List.{range_with_len}
use Rattle.sel_algebra.specs.declared.vocabulary.Op.{Op}
use Rattle.sel_algebra.specs.declared.vocabulary.Op.TheVariants.{Equal}
use Rattle.sel_algebra.specs.declared.vocabulary.Kind.{Kind}
use Rattle.sel_algebra.specs.declared.vocabulary.Kind.TheVariants.{Fixed}
use Rattle.sel_algebra.specs.Operators.{normal_of}
use Rattle.sel_algebra.specs.Entries.{joined, join_below, composed, IsNormalEntry}

-- the most types of a matrix
abbrev pub types_most : ℕ
types_most = 64

-- the kinds of the types, and the entries row by row
pub record Table : Type 0 where
  pub kinds : List Kind
  pub cells : List (Option Op)

-- the table with these kinds and entries
abbrev pub laid_out : List Kind → List (Option Op) → Table
laid_out kinds cells = record { kinds = kinds; cells = cells }

-- the kind of type i
abbrev pub kind_at : List Kind → ℕ → Kind
kind_at kinds i = slice_index_or kinds i Fixed

-- the entry from type i to type j
abbrev pub entry : Table → ℕ → ℕ → Option Op
entry t i j = slice_index_or t.cells (i * length t.kinds + j) None

-- what holds of each two types
abbrev pub EachPair : List Kind → (ℕ → ℕ → Type 0) → Type 0
EachPair kinds P = (i j : ℕ) → i < length kinds → j < length kinds → P i j

-- the first m entries, row by row, where f i j is the entry from type i to type j
abbrev pub first_cells : List Kind → (ℕ → ℕ → Option Op) → ℕ → List (Option Op)
first_cells kinds f m = map (λ p. f (p / length kinds) (p % length kinds)) (range_with_len 0 m)

-- the entries from type i to each type
abbrev pub row_of : List Kind → (ℕ → ℕ → Option Op) → ℕ → List (Option Op)
row_of kinds f i = map (f i) (range_with_len 0 (length kinds))

-- the matrix with the entry f i j from type i to type j
abbrev pub table_of : List Kind → (ℕ → ℕ → Option Op) → Table
table_of kinds f = laid_out kinds (first_cells kinds f (length kinds * length kinds))

-- few types, and a normal entry between each two
pub record IsMatrix (t : Table) : Type 0 where
  pub few : length t.kinds ≤ types_most
  pub whole : length t.cells ≡ length t.kinds * length t.kinds
  pub normal : EachPair t.kinds (λ i j. IsNormalEntry (entry t i j) (kind_at t.kinds i) (kind_at t.kinds j))

-- nothing from any type to any
abbrev pub zero_of : List Kind → Table
zero_of kinds = table_of kinds (λ i j. None)

-- `Equal` from a type to itself
abbrev pub one_at : ℕ → ℕ → Option Op
one_at i j = if i == j then Some Equal else None

-- `Equal` from each type to itself, and nothing else
abbrev pub one_of : List Kind → Table
one_of kinds = table_of kinds one_at

-- the paths from i to j through type k: one entry after the other
abbrev pub through : Table → Table → ℕ → ℕ → ℕ → Option Op
through a b i j k = composed (entry a i k) (entry b k j) (kind_at a.kinds i) (kind_at a.kinds j)

-- the join of the paths from i to j through all types
abbrev pub product_at : Table → Table → ℕ → ℕ → Option Op
product_at a b i j = join_below (length a.kinds) (through a b i j)

-- the path from i to j through type k, of two matrices over the same types by their entries
abbrev pub path_of : List Kind → List (Option Op) → List (Option Op) → ℕ → ℕ → ℕ → Option Op
path_of kinds first second i j k = through (laid_out kinds first) (laid_out kinds second) i j k

-- row i of their product
abbrev pub product_row : List Kind → List (Option Op) → List (Option Op) → ℕ → List (Option Op)
product_row kinds first second i = row_of kinds (product_at (laid_out kinds first) (laid_out kinds second)) i

-- each entry j of a row is joined with f j
abbrev pub JoinsEach : List (Option Op) → List (Option Op) → (ℕ → Option Op) → Type 0
JoinsEach old new f = (j : ℕ) → j < length old → slice_index_or new j None ≡ joined (slice_index_or old j None) (f j)

-- the product
abbrev pub times_of : Table → Table → Table
times_of a b = table_of a.kinds (product_at a b)

-- the join of the two entries from i to j
abbrev pub sum_at : Table → Table → ℕ → ℕ → Option Op
sum_at a b i j = joined (entry a i j) (entry b i j)

-- the join entry by entry
abbrev pub plus_of : Table → Table → Table
plus_of a b = table_of a.kinds (sum_at a b)

-- the entries of the product of two matrices over the same types, by their entries
abbrev pub product_cells : List Kind → List (Option Op) → List (Option Op) → List (Option Op)
product_cells kinds first second = (times_of (laid_out kinds first) (laid_out kinds second)).cells

-- and of their join
abbrev pub sum_cells : List Kind → List (Option Op) → List (Option Op) → List (Option Op)
sum_cells kinds first second = (plus_of (laid_out kinds first) (laid_out kinds second)).cells

-- the entry from i to j becomes the normal form of op, and all else stays
pub record SetsEntry (old new : Table) (i j : ℕ) (op : Op) : Type 0 where
  pub kinds : new.kinds ≡ old.kinds
  pub changed : entry new i j ≡ Some (normal_of op (kind_at old.kinds i) (kind_at old.kinds j))
  pub others : EachPair old.kinds (λ k l. (k ≡ i → l ≡ j → ⊥) → entry new k l ≡ entry old k l)

-- no entry between any two types
abbrev pub HasNoEntries : Table → Type 0
HasNoEntries t = EachPair t.kinds (λ i j. entry t i j ≡ None)

-- Products and closures of matrices by their columns.
--   path_by kinds a f to i k         the path from type i with an entry of a, and then the step from type k
--   JoinsPaths w first steps to old new   a column is joined with those by all types
--   IsProduct kinds a b new          a matrix is the product of two others
--   IsRoundOf kinds a x new          it is no path, or a step of a before what x has
--   IsClosed kinds a new             it is the closure of another one
use Rattle.std.specs.Prelude.{◌≡◌, ◌<◌, ℕ, Option, List, length}
use Rattle.sel_algebra.specs.declared.vocabulary.Op.{Op}
use Rattle.sel_algebra.specs.declared.vocabulary.Kind.{Kind}
use Rattle.sel_algebra.specs.Entries.{joined, join_below, composed}
use Rattle.sel_algebra.specs.Table.{Table, kind_at, entry, times_of}
use Rattle.sel_algebra.specs.Closure.{round_of, closure_of}
use Rattle.query_draw.specs.declared.columns.Column.{Column}
use Rattle.query_draw.specs.Columns.{AreGrowing, Tells, AreColumns}

-- the path from type i to type k with an entry of a, and then the step from there with that of f, to a type of a kind
abbrev pub path_by : List Kind → (ℕ → ℕ → Option Op) → (ℕ → Option Op) → Kind → ℕ → ℕ → Option Op
path_by kinds a f to i k = composed (a i k) (f k) (kind_at kinds i) to

-- the entries of a column are joined with the paths of a matrix that end with a step of another column
abbrev pub JoinsPaths : ℕ → List Column → Column → Kind → Column → Column → Type 0
JoinsPaths growing paths steps to old new =
    (kinds : List Kind) (a : ℕ → ℕ → Option Op) (f e : ℕ → Option Op) → AreGrowing kinds growing → AreColumns (length kinds) paths a
    → ((k : ℕ) → k < length kinds → Tells steps k (f k)) → ((i : ℕ) → i < length kinds → Tells old i (e i))
    → (i : ℕ) → i < length kinds → Tells new i (joined (e i) (join_below (length kinds) (path_by kinds a f to i)))

-- a matrix is the product of two others
abbrev pub IsProduct : List Kind → List Column → List Column → List Column → Type 0
IsProduct kinds a b new =
    (t u : Table) → t.kinds ≡ kinds → AreColumns (length kinds) a (entry t) → AreColumns (length kinds) b (entry u) → AreColumns (length kinds) new (entry (times_of t u))

-- it is no path, or a step of another one before what a third one has
abbrev pub IsRoundOf : List Kind → List Column → List Column → List Column → Type 0
IsRoundOf kinds a x new =
    (t u : Table) → t.kinds ≡ kinds → AreColumns (length kinds) a (entry t) → AreColumns (length kinds) x (entry u) → AreColumns (length kinds) new (entry (round_of t u))

-- it is the closure of another one
abbrev pub IsClosed : List Kind → List Column → List Column → Type 0
IsClosed kinds a new = (t : Table) → t.kinds ≡ kinds → AreColumns (length kinds) a (entry t) → AreColumns (length kinds) new (entry (closure_of t))

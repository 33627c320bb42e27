-- The greatest class of the entries of columns.
--   IsGreatestOf n f greatest           the greatest of the classes f 0 to f (n - 1), and nothing where none of them is there
--   IsGreatestIn kinds c to greatest    that of the entries of a column, to a type of a kind
--   IsGreatestOver kinds cs greatest    that of the entries of a matrix by its columns
use Rattle.std.specs.Prelude.{◌≡◌, ◌<◌, ℕ, Option, Some, List, length, IfSome}
use Rattle.sel_algebra.specs.declared.vocabulary.Op.{Op}
use Rattle.sel_algebra.specs.declared.vocabulary.Kind.{Kind}
use Rattle.sel_algebra.specs.declared.vocabulary.Class.{Class}
use Rattle.sel_algebra.specs.Entries.{entry_class, ClassEntryAtMost}
use Rattle.sel_algebra.specs.Table.{Table, kind_at, entry}
use Rattle.sel_algebra.specs.Greatest.{greatest_class_of}
use Rattle.query_draw.specs.declared.columns.Column.{Column}
use Rattle.query_draw.specs.Columns.{Tells, AreColumns}

-- the greatest of the first n classes of f, and nothing where none of them is there
pub record IsGreatestOf (n : ℕ) (f : ℕ → Option Class) (greatest : Option Class) : Type 0 where
  pub attained : IfSome greatest (λ class. (i : ℕ) × (i < n) × (f i ≡ Some class))
  pub at_least : (i : ℕ) → i < n → ClassEntryAtMost (f i) greatest

-- the greatest class of the entries of a column, to a type of a kind
abbrev pub IsGreatestIn : List Kind → Column → Kind → Option Class → Type 0
IsGreatestIn kinds c to greatest =
    (e : ℕ → Option Op) → ((i : ℕ) → i < length kinds → Tells c i (e i)) → IsGreatestOf (length kinds) (λ i. entry_class (e i) (kind_at kinds i) to) greatest

-- the greatest class of the entries of a matrix by its columns
abbrev pub IsGreatestOver : List Kind → List Column → Option Class → Type 0
IsGreatestOver kinds cs greatest = (t : Table) → t.kinds ≡ kinds → AreColumns (length kinds) cs (entry t) → greatest ≡ greatest_class_of t

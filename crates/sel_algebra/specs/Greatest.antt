-- The greatest class of the entries of a matrix.
--   class_at t i j, HasClass t class   the class of an entry
--   IsGreatestClass t greatest         the greatest class of the entries, and nothing where there is no entry
--   greatest_below n f                 the greatest of the classes f 0 to f (n - 1)
--   greatest_from t i                  the greatest class of the entries from type i
--   greatest_class_of t                the greatest of these: a law says that it alone is the greatest class
use Rattle.std.specs.Prelude.{◌≡◌, ℕ, zero, suc, ◌<◌, Option, Some, None, IfSome, length}
use Rattle.sel_algebra.specs.declared.vocabulary.Class.{Class}
use Rattle.sel_algebra.specs.Entries.{entry_class, ClassEntryAtMost, greater_class}
use Rattle.sel_algebra.specs.Table.{Table, EachPair, entry, kind_at}

-- the class of the entry from i to j
abbrev pub class_at : Table → ℕ → ℕ → Option Class
class_at t i j = entry_class (entry t i j) (kind_at t.kinds i) (kind_at t.kinds j)

-- the entry between some two types has this class
abbrev pub HasClass : Table → Class → Type 0
HasClass t class = (i : ℕ) × ((j : ℕ) × ((i < length t.kinds) × ((j < length t.kinds) × (class_at t i j ≡ Some class))))

-- the greatest class of the entries, and nothing where there is no entry
pub record IsGreatestClass (t : Table) (greatest : Option Class) : Type 0 where
  pub attained : IfSome greatest (λ class. HasClass t class)
  pub at_least : EachPair t.kinds (λ i j. ClassEntryAtMost (class_at t i j) greatest)

-- the greatest of the first n classes of f
unfoldable pub greatest_below : ℕ → (ℕ → Option Class) → Option Class
greatest_below zero f = None
greatest_below (suc n) f = greater_class (greatest_below n f) (f n)

-- the greatest class of the entries from type i
abbrev pub greatest_from : Table → ℕ → Option Class
greatest_from t i = greatest_below (length t.kinds) (class_at t i)

-- the greatest class of the entries from any type
abbrev pub greatest_class_of : Table → Option Class
greatest_class_of t = greatest_below (length t.kinds) (greatest_from t)

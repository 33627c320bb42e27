-- The laws of matrices.
use Rattle.std.specs.Prelude.{◌≡◌, ◌↔◌, ℕ, ◌<◌, Option, Some, length}
use Rattle.sel_algebra.specs.declared.vocabulary.Op.{Op}
use Rattle.sel_algebra.specs.declared.vocabulary.Op.TheVariants.{Equal}
use Rattle.sel_algebra.specs.declared.vocabulary.Class.{Class}
use Rattle.sel_algebra.specs.Operators.{star_of, IsNormal, typed_composition, growth_class}
use Rattle.sel_algebra.specs.Entries.{EntryAtMost, ClassEntryAtMost}
use Rattle.sel_algebra.specs.Table.{Table, EachPair, kind_at, entry, IsMatrix, times_of, plus_of}
use Rattle.sel_algebra.specs.Closure.{IsClosureOf, closure_of}
use Rattle.sel_algebra.specs.Greatest.{IsGreatestClass, greatest_class_of}

-- each table has a closure, and that of a matrix is a matrix
abbrev pub ClosureExists : Type 0
ClosureExists = (m : Table) → IsClosureOf m (closure_of m) × (IsMatrix m → IsMatrix (closure_of m))

-- a table has no other closure
abbrev pub ClosureIsUnique : Type 0
ClosureIsUnique = (m x : Table) → IsMatrix x → IsClosureOf m x → x ≡ closure_of m

-- each table has one greatest class, which is nothing where it has no entry
abbrev pub GreatestClassIsUnique : Type 0
GreatestClassIsUnique =
    (t : Table) (greatest : Option Class) → IsGreatestClass t greatest ↔ (greatest ≡ greatest_class_of t)

-- what entries to and from a type between are at least, their product is at least the composition of
abbrev pub ProductIsAtLeastItsPaths : Type 0
ProductIsAtLeastItsPaths =
    (a b : Table) (i k j : ℕ) (u v : Op) → i < length a.kinds → k < length a.kinds → j < length a.kinds
    → EntryAtMost (Some u) (entry a i k) → EntryAtMost (Some v) (entry b k j)
    → EntryAtMost (Some (typed_composition u v (kind_at a.kinds i) (kind_at a.kinds j))) (entry (times_of a b) i j)

-- each entry of a join is at least those of its parts
abbrev pub JoinIsAtLeastItsParts : Type 0
JoinIsAtLeastItsParts = (a b : Table) → EachPair a.kinds (λ i j.
    EntryAtMost (entry a i j) (entry (plus_of a b) i j) × EntryAtMost (entry b i j) (entry (plus_of a b) i j))

-- from each type to itself a closure is at least `Equal`
abbrev pub ClosureIsAtLeastEqual : Type 0
ClosureIsAtLeastEqual = (m : Table) (t : ℕ) → t < length m.kinds → EntryAtMost (Some Equal) (entry (closure_of m) t t)

-- a closure is at least the composition of a step and of what it is at least after it
abbrev pub ClosureIsAtLeastItsPaths : Type 0
ClosureIsAtLeastItsPaths =
    (m : Table) (i k j : ℕ) (u v : Op) → i < length m.kinds → k < length m.kinds → j < length m.kinds
    → EntryAtMost (Some u) (entry m i k) → EntryAtMost (Some v) (entry (closure_of m) k j)
    → EntryAtMost (Some (typed_composition u v (kind_at m.kinds i) (kind_at m.kinds j))) (entry (closure_of m) i j)

-- from each type to itself a closure is at least the star of what the matrix is at least
abbrev pub ClosureIsAtLeastStar : Type 0
ClosureIsAtLeastStar =
    (m : Table) (t : ℕ) (v : Op) → IsMatrix m → t < length m.kinds → IsNormal v (kind_at m.kinds t) (kind_at m.kinds t)
    → EntryAtMost (Some v) (entry m t t) → EntryAtMost (Some (star_of v)) (entry (closure_of m) t t)

-- the greatest class is at least the class of what an entry is at least
abbrev pub GreatestClassIsAtLeastItsEntries : Type 0
GreatestClassIsAtLeastItsEntries =
    (t : Table) (i j : ℕ) (v : Op) → i < length t.kinds → j < length t.kinds → EntryAtMost (Some v) (entry t i j)
    → ClassEntryAtMost (Some (growth_class v (kind_at t.kinds i) (kind_at t.kinds j))) (greatest_class_of t)

-- Entries of a matrix: an operator, or nothing where there is no path.
--   joined a b                   the join of two entries, nothing being below all
--   join_below n f               the join of the entries f 0 to f (n - 1)
--   composed a b from to         the typed composition of two entries, nothing where one is missing
--   EntryAtMost a b              the order of entries, nothing being below all
--   IsNormalEntry a from to      nothing, or a normal operator
--   entry_class a from to        the class of an entry, or nothing
--   ClassEntryAtMost c d         the order of these, nothing being below all
--   greater_class c d            the greater of two
use Rattle.std.specs.Prelude.{ℕ, zero, suc, if◌then◌else◌, Option, Some, None, IfSome, ⊤}
use Rattle.sel_algebra.specs.declared.vocabulary.Op.{Op}
use Rattle.sel_algebra.specs.declared.vocabulary.Kind.{Kind}
use Rattle.sel_algebra.specs.declared.vocabulary.Class.{Class}
use Rattle.sel_algebra.specs.Operators.{AtMost, join_of, IsNormal, typed_composition, growth_class, class_at_most, ClassAtMost}

-- the join of two entries, nothing being below all
abbrev pub joined : Option Op → Option Op → Option Op
joined None b = b
joined (Some a) None = Some a
joined (Some a) (Some b) = Some (join_of a b)

-- the join of the first n entries of f
unfoldable pub join_below : ℕ → (ℕ → Option Op) → Option Op
join_below zero f = None
join_below (suc n) f = joined (join_below n f) (f n)

-- the typed composition of two entries, nothing where one is missing
abbrev pub composed : Option Op → Option Op → Kind → Kind → Option Op
composed None b from to = None
composed (Some a) None from to = None
composed (Some a) (Some b) from to = Some (typed_composition a b from to)

-- an entry is below another or the same, and nothing is below all
abbrev pub EntryAtMost : Option Op → Option Op → Type 0
EntryAtMost None b = ⊤
EntryAtMost (Some a) None = ⊥
EntryAtMost (Some a) (Some b) = AtMost a b

-- an entry between these kinds is nothing or a normal operator
abbrev pub IsNormalEntry : Option Op → Kind → Kind → Type 0
IsNormalEntry a from to = IfSome a (λ op. IsNormal op from to)

-- the growth class of an entry between these kinds, and nothing where there is no entry
abbrev pub entry_class : Option Op → Kind → Kind → Option Class
entry_class None from to = None
entry_class (Some a) from to = Some (growth_class a from to)

-- a class is below another or the same, and nothing is below all
abbrev pub ClassEntryAtMost : Option Class → Option Class → Type 0
ClassEntryAtMost None d = ⊤
ClassEntryAtMost (Some c) None = ⊥
ClassEntryAtMost (Some c) (Some d) = ClassAtMost c d

-- the greater of two classes, nothing being below all
abbrev pub greater_class : Option Class → Option Class → Option Class
greater_class None d = d
greater_class (Some c) None = Some c
greater_class (Some c) (Some d) = Some (if class_at_most c d then d else c)

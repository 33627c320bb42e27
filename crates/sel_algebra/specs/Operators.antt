-- The tables of the growth operators, the orders, and what follows from both. The columns of a
-- table stand for =, <, >, <> and x.
--   column b e l g d c               the cell of a row at the column of b
--   compose_of a b                   the operator of a path in two parts
--   AtMost a b                       the order of operators
--   join_of a b                      the operator of a union
--   star_of a                        the estimate for any number of repetitions
--   mirror_of a                      the operator of a path taken backwards
--   normal_of a from to              the normal form between types of these kinds
--   IsNormal a from to               an operator that is its own normal form
--   typed_composition a b from to    the normal form of a composition
--   growth_class a from to           the class between types of these kinds
--   ClassAtMost c d                  the order of classes
use Rattle.std.specs.Prelude.{◌≡◌, Bool, true, false, IsTrue}
use Rattle.sel_algebra.specs.declared.vocabulary.Op.{Op}
use Rattle.sel_algebra.specs.declared.vocabulary.Op.TheVariants.{Equal, Less, Greater, Diamond, Cross}
use Rattle.sel_algebra.specs.declared.vocabulary.Kind.{Kind}
use Rattle.sel_algebra.specs.declared.vocabulary.Kind.TheVariants.{Fixed, Growing}
use Rattle.sel_algebra.specs.declared.vocabulary.Class.{Class}
use Rattle.sel_algebra.specs.declared.vocabulary.Class.TheVariants.{Constant, Linear, Quadratic}

-- the cell of a row, whose columns stand for the operators in their order
abbrev pub column : {A : Type 0} → Op → A → A → A → A → A → A
column Equal e l g d c = e
column Less e l g d c = l
column Greater e l g d c = g
column Diamond e l g d c = d
column Cross e l g d c = c

-- the composition of two operators, the row first
abbrev pub compose_of : Op → Op → Op
compose_of Equal b = column b Equal Less Greater Diamond Cross
compose_of Less b = column b Less Less Diamond Diamond Cross
compose_of Greater b = column b Greater Cross Greater Cross Cross
compose_of Diamond b = column b Diamond Cross Diamond Cross Cross
compose_of Cross b = column b Cross Cross Cross Cross Cross

-- whether an operator, the row, is below another or the same
abbrev pub at_most : Op → Op → Bool
at_most Equal b = column b true true true true true
at_most Less b = column b false true false true true
at_most Greater b = column b false false true true true
at_most Diamond b = column b false false false true true
at_most Cross b = column b false false false false true

-- an operator is below another or the same
abbrev pub AtMost : Op → Op → Type 0
AtMost a b = IsTrue (at_most a b)

-- the least operator that is at least both, the row first
abbrev pub join_of : Op → Op → Op
join_of Equal b = column b Equal Less Greater Diamond Cross
join_of Less b = column b Less Less Diamond Diamond Cross
join_of Greater b = column b Greater Diamond Greater Diamond Cross
join_of Diamond b = column b Diamond Diamond Diamond Diamond Cross
join_of Cross b = column b Cross Cross Cross Cross Cross

-- the estimate for any number of repetitions
abbrev pub star_of : Op → Op
star_of a = column a Equal Less Greater Cross Cross

-- the operator of the path taken backwards
abbrev pub mirror_of : Op → Op
mirror_of a = column a Equal Greater Less Diamond Cross

-- the normal form of an operator between types of these kinds
abbrev pub normal_of : Op → Kind → Kind → Op
normal_of a Fixed Fixed = Equal
normal_of a Fixed Growing = Less
normal_of a Growing Fixed = Greater
normal_of a Growing Growing = a

-- an operator is its own normal form between these kinds
abbrev pub IsNormal : Op → Kind → Kind → Type 0
IsNormal a from to = normal_of a from to ≡ a

-- the normal form of the composition, between the kinds at its two ends
abbrev pub typed_composition : Op → Op → Kind → Kind → Op
typed_composition a b from to = normal_of (compose_of a b) from to

-- the growth class of an operator between types of these kinds
abbrev pub growth_class : Op → Kind → Kind → Class
growth_class a Fixed Fixed = Constant
growth_class a Fixed Growing = Linear
growth_class a Growing Fixed = Linear
growth_class a Growing Growing = column a Linear Linear Linear Linear Quadratic

-- whether a class is below another or the same
abbrev pub class_at_most : Class → Class → Bool
class_at_most Constant d = true
class_at_most Linear Constant = false
class_at_most Linear d = true
class_at_most Quadratic Quadratic = true
class_at_most Quadratic d = false

-- a class is below another or the same
abbrev pub ClassAtMost : Class → Class → Type 0
ClassAtMost c d = IsTrue (class_at_most c d)

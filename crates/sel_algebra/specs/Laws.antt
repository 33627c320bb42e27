-- The laws of the growth operators.
use Rattle.std.specs.Prelude.{◌≡◌, ◌↔◌}
use Rattle.sel_algebra.specs.declared.vocabulary.Op.{Op}
use Rattle.sel_algebra.specs.declared.vocabulary.Op.TheVariants.{Equal}
use Rattle.sel_algebra.specs.declared.vocabulary.Kind.{Kind}
use Rattle.sel_algebra.specs.declared.vocabulary.Kind.TheVariants.{Fixed}
use Rattle.sel_algebra.specs.declared.vocabulary.Class.TheVariants.{Constant}
use Rattle.sel_algebra.specs.Operators.{AtMost, join_of, star_of, mirror_of, normal_of, IsNormal, typed_composition, growth_class, ClassAtMost}

-- each operator is at most itself
abbrev pub OrderIsReflexive : Type 0
OrderIsReflexive = (a : Op) → AtMost a a

-- what is at most an operator is at most all above it
abbrev pub OrderIsTransitive : Type 0
OrderIsTransitive = (a b c : Op) → AtMost a b → AtMost b c → AtMost a c

-- two operators that are at most each other are the same
abbrev pub OrderIsAntisymmetric : Type 0
OrderIsAntisymmetric = (a b : Op) → AtMost a b → AtMost b a → a ≡ b

-- the join is at least both operators, and at most each operator that is
abbrev pub JoinIsLeastUpperBound : Type 0
JoinIsLeastUpperBound = (a b c : Op) → (AtMost a c × AtMost b c) ↔ AtMost (join_of a b) c

-- a normal form is its own normal form, and so is the join of two
abbrev pub NormalFormsAreKept : Type 0
NormalFormsAreKept =
    (k l : Kind) (a b : Op)
    → IsNormal (normal_of a k l) k l × (IsNormal a k l → IsNormal b k l → IsNormal (join_of a b) k l)

-- three parts of a path may be composed in either order
abbrev pub TypedCompositionIsAssociative : Type 0
TypedCompositionIsAssociative =
    (k l m n : Kind) (a b c : Op) → IsNormal a k l → IsNormal b l m → IsNormal c m n
    → typed_composition (typed_composition a b k m) c k n ≡ typed_composition a (typed_composition b c l n) k n

-- an operator composed with `Equal` of the kind at either end is the same
abbrev pub EqualIsUnit : Type 0
EqualIsUnit =
    (k l : Kind) (a : Op) → IsNormal a k l → (typed_composition Equal a k l ≡ a) × (typed_composition a Equal k l ≡ a)

-- composing after a join is joining the compositions
abbrev pub TypedCompositionDistributesAfterJoin : Type 0
TypedCompositionDistributesAfterJoin =
    (k l m : Kind) (a b c : Op) → IsNormal a k l → IsNormal b k l → IsNormal c l m
    → typed_composition (join_of a b) c k m ≡ join_of (typed_composition a c k m) (typed_composition b c k m)

-- composing before a join is joining the compositions
abbrev pub TypedCompositionDistributesBeforeJoin : Type 0
TypedCompositionDistributesBeforeJoin =
    (k l m : Kind) (a b c : Op) → IsNormal a k l → IsNormal b l m → IsNormal c l m
    → typed_composition a (join_of b c) k m ≡ join_of (typed_composition a b k m) (typed_composition a c k m)

-- what is composed of greater operators is greater
abbrev pub TypedCompositionKeepsOrder : Type 0
TypedCompositionKeepsOrder =
    (k l : Kind) (a b c d : Op) → AtMost a c → AtMost b d
    → AtMost (typed_composition a b k l) (typed_composition c d k l)

-- a path taken backwards is its parts taken backwards, the last part first
abbrev pub MirrorReversesTypedComposition : Type 0
MirrorReversesTypedComposition =
    (k l m : Kind) (a b : Op) → IsNormal a k l → IsNormal b l m
    → mirror_of (typed_composition a b k m) ≡ typed_composition (mirror_of b) (mirror_of a) m k

-- the mirrors of two operators are in the order of the two
abbrev pub MirrorKeepsOrder : Type 0
MirrorKeepsOrder = (a b : Op) → AtMost a b ↔ AtMost (mirror_of a) (mirror_of b)

-- the star of a is the least normal x with `Equal` joined with a composed with x at most x
abbrev pub StarIsLeast : Type 0
StarIsLeast =
    (k : Kind) (a : Op) → IsNormal a k k
    → IsNormal (star_of a) k k
    × AtMost (join_of Equal (typed_composition a (star_of a) k k)) (star_of a)
    × ((x : Op) → IsNormal x k k → AtMost (join_of Equal (typed_composition a x k k)) x → AtMost (star_of a) x)

-- the classes of two operators are in the order of the two
abbrev pub ClassKeepsOrder : Type 0
ClassKeepsOrder =
    (k l : Kind) (a b : Op) → AtMost a b → ClassAtMost (growth_class a k l) (growth_class b k l)

-- only between fixed types is the class constant
abbrev pub ConstantIsOfFixedTypes : Type 0
ConstantIsOfFixedTypes =
    (k l : Kind) (a : Op) → (growth_class a k l ≡ Constant) ↔ ((k ≡ Fixed) × (l ≡ Fixed))

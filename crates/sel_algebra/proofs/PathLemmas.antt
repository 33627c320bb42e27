-- Products, joins, closures and greatest classes are at least what single paths have.
use Rattle.std.proofs.Common.{◌≡◌, ◌<◌, ℕ, Option, Some, None, length, refl, sym, subst, arith}
use Rattle.sel_algebra.specs.declared.vocabulary.Op.{Op}
use Rattle.sel_algebra.specs.declared.vocabulary.Op.TheVariants.{Equal}
use Rattle.sel_algebra.specs.declared.vocabulary.Kind.{Kind}
use Rattle.sel_algebra.specs.Operators.{AtMost, star_of, IsNormal, typed_composition, growth_class, ClassAtMost}
use Rattle.sel_algebra.specs.Entries.{joined, composed, EntryAtMost, IsNormalEntry, entry_class, ClassEntryAtMost}
use Rattle.sel_algebra.specs.Table.{Table, kind_at, entry, one_at, through, product_at}
use Rattle.sel_algebra.specs.Closure.{closure_of}
use Rattle.sel_algebra.specs.Greatest.{class_at, greatest_class_of}
use Rattle.sel_algebra.specs.MatrixLaws.{ProductIsAtLeastItsPaths, JoinIsAtLeastItsParts, ClosureIsAtLeastEqual, ClosureIsAtLeastItsPaths, ClosureIsAtLeastStar, GreatestClassIsAtLeastItsEntries}
use Rattle.sel_algebra.proofs.EntryLemmas.{EntryAtMost-refl, EntryAtMost-trans, EntryAtMost-joined_left, EntryAtMost-joined_right, EntryAtMost-join_below, composed-mono}
use Rattle.sel_algebra.proofs.TableLemmas.{entry-table_of, entry-plus_of}
use Rattle.sel_algebra.proofs.ClosureLemmas.{entry-round_of, IsClosureOf-closure_of, IsMatrix-closure_of}
use Rattle.sel_algebra.proofs.GreatestLemmas.{ClassEntryAtMost-trans, IsGreatestClass-greatest_class_of}

-- a path by way of a type is at most the join of all
path-product_at : (a b : Table) (i k j : ℕ) (u v : Op) → k < length a.kinds → EntryAtMost (Some u) (entry a i k) → EntryAtMost (Some v) (entry b k j)
    → EntryAtMost (Some (typed_composition u v (kind_at a.kinds i) (kind_at a.kinds j))) (product_at a b i j)
path-product_at a b i k j u v lt first second =
    EntryAtMost-trans (composed (Some u) (Some v) (kind_at a.kinds i) (kind_at a.kinds j)) (through a b i j k) (product_at a b i j)
    (composed-mono (Some u) (Some v) (entry a i k) (entry b k j) (kind_at a.kinds i) (kind_at a.kinds j) first second) (EntryAtMost-join_below (length a.kinds) (through a b i j) k lt)

pub product_paths : ProductIsAtLeastItsPaths
product_paths a b i k j u v p r q first second = rw (entry-table_of a.kinds (product_at a b) i j p q) (path-product_at a b i k j u v r first second)

pub join_parts : JoinIsAtLeastItsParts
join_parts a b i j p q = rw (entry-plus_of a b i j p q) (EntryAtMost-joined_left (entry a i j) (entry b i j), EntryAtMost-joined_right (entry a i j) (entry b i j))

-- the entries of a closure are at least no path, and a step before an entry
closed-entry : (m : Table) (i j : ℕ) → i < length m.kinds → j < length m.kinds → EntryAtMost (joined (one_at i j) (product_at m (closure_of m) i j)) (entry (closure_of m) i j)
closed-entry m i j p q = rw (entry-round_of m (closure_of m) i j p q) at ((IsClosureOf-closure_of m).closed i j p q)

one_same : (t : ℕ) → one_at t t ≡ Some Equal
one_same t = grind arith

pub closure_equal : ClosureIsAtLeastEqual
closure_equal m t p =
    EntryAtMost-trans (Some Equal) (joined (one_at t t) (product_at m (closure_of m) t t)) (entry (closure_of m) t t)
    (subst (λ e. EntryAtMost e (joined (one_at t t) (product_at m (closure_of m) t t))) (one_same t) (EntryAtMost-joined_left (one_at t t) (product_at m (closure_of m) t t)))
    (closed-entry m t t p p)

pub closure_paths : ClosureIsAtLeastItsPaths
closure_paths m i k j u v p r q first second =
    let path = typed_composition u v (kind_at m.kinds i) (kind_at m.kinds j) in
    let product = product_at m (closure_of m) i j in
    EntryAtMost-trans (Some path) product (entry (closure_of m) i j) (path-product_at m (closure_of m) i k j u v r first second)
    (EntryAtMost-trans product (joined (one_at i j) product) (entry (closure_of m) i j) (EntryAtMost-joined_right (one_at i j) product) (closed-entry m i j p q))

star-least : (k : Kind) (v e : Op) → IsNormal v k k → IsNormal e k k → AtMost Equal e → AtMost (typed_composition v e k k) e → AtMost (star_of v) e
star-least k v e normal normal_e equal step = grind arith

star-entry : (x : Option Op) (k : Kind) (v : Op) → IsNormal v k k → IsNormalEntry x k k → EntryAtMost (Some Equal) x
    → ((e : Op) → x ≡ Some e → EntryAtMost (Some (typed_composition v e k k)) x) → EntryAtMost (Some (star_of v)) x
star-entry None k v normal normal_x equal step = elim equal [ ]
star-entry (Some e) k v normal normal_x equal step = star-least k v e normal normal_x equal (step e refl)

EntryAtMost-same : (x : Option Op) (e : Op) → x ≡ Some e → EntryAtMost (Some e) x
EntryAtMost-same x e same = subst (EntryAtMost (Some e)) (sym same) (EntryAtMost-refl (Some e))

pub closure_star : ClosureIsAtLeastStar
closure_star m t v matrix p normal least =
    let k = kind_at m.kinds t in
    let x = entry (closure_of m) t t in
    let kinds = (IsClosureOf-closure_of m).kinds in
    let normal_x : IsNormalEntry x k k = subst (λ ks. IsNormalEntry x (kind_at ks t) (kind_at ks t)) kinds ((IsMatrix-closure_of m matrix).normal t t (rw kinds p) (rw kinds p)) in
    star-entry x k v normal normal_x (closure_equal m t p) (λ e same. closure_paths m t t t v e p p p least (EntryAtMost-same x e same))

class-mono : (a b : Op) (k l : Kind) → AtMost a b → ClassAtMost (growth_class a k l) (growth_class b k l)
class-mono a b k l h = grind arith

class-entry : (x : Option Op) (a : Op) (k l : Kind) → EntryAtMost (Some a) x → ClassEntryAtMost (Some (growth_class a k l)) (entry_class x k l)
class-entry None a k l h = elim h [ ]
class-entry (Some b) a k l h = class-mono a b k l h

pub greatest_entries : GreatestClassIsAtLeastItsEntries
greatest_entries t i j v p q least =
    ClassEntryAtMost-trans (Some (growth_class v (kind_at t.kinds i) (kind_at t.kinds j))) (class_at t i j) (greatest_class_of t)
    (class-entry (entry t i j) v (kind_at t.kinds i) (kind_at t.kinds j) least) ((IsGreatestClass-greatest_class_of t).at_least i j p q)

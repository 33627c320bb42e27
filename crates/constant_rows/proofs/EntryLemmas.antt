-- Which entries of matrices are there, and what a constant class says of one.
use Rattle.std.proofs.Common.{◌≡◌, ◌<◌, ℕ, Option, Some, None, List, length, refl, arith}
use Rattle.std.specs.Option.{IsSome}
use Rattle.std.proofs.lemmas.Bool.{eq-eqb}
use Rattle.sel_algebra.specs.declared.vocabulary.Op.{Op}
use Rattle.sel_algebra.specs.declared.vocabulary.Op.TheVariants.{Equal}
use Rattle.sel_algebra.specs.declared.vocabulary.Class.TheVariants.{Constant}
use Rattle.sel_algebra.specs.declared.vocabulary.Kind.{Kind}
use Rattle.sel_algebra.specs.declared.vocabulary.Kind.TheVariants.{Fixed}
use Rattle.sel_algebra.specs.Operators.{typed_composition, growth_class, ClassAtMost}
use Rattle.sel_algebra.specs.Entries.{EntryAtMost, entry_class, ClassEntryAtMost}
use Rattle.sel_algebra.specs.Table.{Table, kind_at, entry, one_at, one_of, times_of, plus_of}
use Rattle.sel_algebra.specs.Closure.{closure_of}
use Rattle.sel_algebra.proofs.EntryLemmas.{EntryAtMost-refl}
use Rattle.sel_algebra.proofs.TableLemmas.{entry-table_of}
use Rattle.sel_algebra.proofs.PathLemmas.{product_paths, join_parts, closure_equal, closure_paths}

-- an entry that is at least an operator is there
at_least-some : (v : Op) (e : Option Op) → EntryAtMost (Some v) e → IsSome e
at_least-some v None least = elim least [ ]
at_least-some v (Some w) least = refl

some-at_least : (e : Option Op) → IsSome e → (v : Op) × EntryAtMost (Some v) e
some-at_least None some = absurd (cc)
some-at_least (Some v) some = (v, EntryAtMost-refl (Some v))

-- what is at least an entry that is there is there
at_most-some : (d e : Option Op) → EntryAtMost d e → IsSome d → IsSome e
at_most-some None e least some = absurd (cc)
at_most-some (Some v) e least some = at_least-some v e least

-- ---- products, joins, units and closures

pub times-some : (a b : Table) (i k j : ℕ) → i < length a.kinds → k < length a.kinds → j < length a.kinds
    → IsSome (entry a i k) → IsSome (entry b k j) → IsSome (entry (times_of a b) i j)
times-some a b i k j p r q first second =
    let (u, least_u) = some-at_least (entry a i k) first in
    let (v, least_v) = some-at_least (entry b k j) second in
    at_least-some (typed_composition u v (kind_at a.kinds i) (kind_at a.kinds j)) (entry (times_of a b) i j) (product_paths a b i k j u v p r q least_u least_v)

pub plus-left : (a b : Table) (i j : ℕ) → i < length a.kinds → j < length a.kinds → IsSome (entry a i j) → IsSome (entry (plus_of a b) i j)
plus-left a b i j p q some = at_most-some (entry a i j) (entry (plus_of a b) i j) (join_parts a b i j p q).0 some

pub plus-right : (a b : Table) (i j : ℕ) → i < length a.kinds → j < length a.kinds → IsSome (entry b i j) → IsSome (entry (plus_of a b) i j)
plus-right a b i j p q some = at_most-some (entry b i j) (entry (plus_of a b) i j) (join_parts a b i j p q).1 some

pub one-some : (kinds : List Kind) (t : ℕ) → t < length kinds → IsSome (entry (one_of kinds) t t)
one-some kinds t known = rw (entry-table_of kinds one_at t t known known, eq-eqb t t refl) refl

pub closure-same : (m : Table) (t : ℕ) → t < length m.kinds → IsSome (entry (closure_of m) t t)
closure-same m t known = at_least-some Equal (entry (closure_of m) t t) (closure_equal m t known)

pub closure-step : (m : Table) (i k j : ℕ) → i < length m.kinds → k < length m.kinds → j < length m.kinds
    → IsSome (entry m i k) → IsSome (entry (closure_of m) k j) → IsSome (entry (closure_of m) i j)
closure-step m i k j p r q first second =
    let (u, least_u) = some-at_least (entry m i k) first in
    let (v, least_v) = some-at_least (entry (closure_of m) k j) second in
    at_least-some (typed_composition u v (kind_at m.kinds i) (kind_at m.kinds j)) (entry (closure_of m) i j) (closure_paths m i k j u v p r q least_u least_v)

-- ---- classes

operator-fixed : (v : Op) (k l : Kind) → ClassAtMost (growth_class v k l) Constant → (k ≡ Fixed) × (l ≡ Fixed)
operator-fixed v k l most = grind arith

-- between the types of an entry whose class is constant at most, both have a count
pub entry-fixed : (e : Option Op) (k l : Kind) → IsSome e → ClassEntryAtMost (entry_class e k l) (Some Constant) → (k ≡ Fixed) × (l ≡ Fixed)
entry-fixed None k l some most = absurd (cc)
entry-fixed (Some v) k l some most = operator-fixed v k l most

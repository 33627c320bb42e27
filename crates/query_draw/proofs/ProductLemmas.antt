-- Products and closures of matrices by their columns.
use Rattle.std.proofs.Common.{◌≡◌, ◌≢◌, ℕ, zero, suc, ◌+◌, ◌*◌, ◌<◌, ◌≤◌, ◌^◌, Bool, true, false, if◌then◌else◌, Option, Some, None, List, length, slice_set, inl, inr, refl, sym, ap, subst, ◌∙◌, arith, add-one}
use Rattle.std.proofs.lemmas.Bool.Decides.{eqb_tells}
use Rattle.sel_algebra.specs.declared.vocabulary.Op.{Op}
use Rattle.sel_algebra.specs.declared.vocabulary.Op.TheVariants.{Equal}
use Rattle.sel_algebra.specs.declared.vocabulary.Kind.{Kind}
use Rattle.sel_algebra.specs.Entries.{joined, join_below, composed, EntryAtMost}
use Rattle.sel_algebra.specs.Table.{types_most, Table, kind_at, entry, one_at, one_of, product_at, times_of, sum_at}
use Rattle.sel_algebra.specs.Closure.{round_of, rounds}
use Rattle.sel_algebra.proofs.EntryLemmas.{EntryAtMost-refl, EntryAtMost-trans, EntryAtMost-antisym, EntryAtMost-joined_left, EntryAtMost-joined_right, joined-EntryAtMost, joined-none, join_below-mono, EntryAtMost-join_below}
use Rattle.sel_algebra.proofs.TableLemmas.{entry-table_of}
use Rattle.sel_algebra.proofs.ClosureLemmas.{IsRound, entry-round_of, IsRound-one_of, IsRound-round_of, rounds-none, rounds-more, closure-still}
use Rattle.query_draw.specs.declared.columns.Column.{Column}
use Rattle.query_draw.specs.Columns.{has, AreGrowing, is_at_least, Tells, no_entry, column_at, FirstColumns, AreColumns, joined_column, followed_column, normal_column, told_op}
use Rattle.query_draw.specs.TypeSets.{HasNone}
use Rattle.query_draw.specs.Products.{path_by, JoinsPaths, IsProduct, IsRoundOf, IsClosed}
use Rattle.query_draw.proofs.ColumnLemmas.{Tells-joined, Tells-path, not_there, told_there, Tells-one, FirstColumns-more, AreColumns-same, AreColumns-table_of, same_table}
use Rattle.query_draw.proofs.AlongLemmas.{join_below-most}
use Rattle.query_draw.proofs.WideLemmas.{join_moves}

-- ---- joins of entries

joined-moves : (a b c : Option Op) → joined (joined a b) c ≡ joined a (joined b c)
joined-moves None b c = refl
joined-moves (Some a) None c = refl
joined-moves (Some a) (Some b) None = refl
joined-moves (Some a) (Some b) (Some c) = ap Some (join_moves a b c)

-- the join of no entries that are there
join_below-nothing : (n : ℕ) (f : ℕ → Option Op) → ((k : ℕ) → k < n → f k ≡ None) → join_below n f ≡ None
join_below-nothing n f none = EntryAtMost-antisym (join_below n f) None (join_below-most n f None (λ k lt. subst (λ x. EntryAtMost x None) (sym (none k lt)) tt)) tt

join_below-same : (n : ℕ) (f g : ℕ → Option Op) → ((k : ℕ) → k < n → f k ≡ g k) → join_below n f ≡ join_below n g
join_below-same n f g same =
    EntryAtMost-antisym (join_below n f) (join_below n g) (join_below-mono n f g (λ k lt. subst (EntryAtMost (f k)) (same k lt) (EntryAtMost-refl (f k))))
    (join_below-mono n g f (λ k lt. subst (λ x. EntryAtMost x (f k)) (same k lt) (EntryAtMost-refl (f k))))

-- the join with an entry where there was none
join_below-with : (n : ℕ) (f g : ℕ → Option Op) (k : ℕ) → k < n → f k ≡ None → ((l : ℕ) → l < n → l ≢ k → g l ≡ f l) → join_below n g ≡ joined (join_below n f) (g k)
join_below-with n f g k lt none same =
    let all = joined (join_below n f) (g k) in
    let below : EntryAtMost (join_below n g) all = join_below-most n g all (λ l p. elim (eqb_tells l k) [
      | inl hit ↦ subst (λ x. EntryAtMost (g x) all) (sym hit.1) (EntryAtMost-joined_right (join_below n f) (g k))
      | inr miss ↦
          subst (λ x. EntryAtMost x all) (sym (same l p miss.1)) (EntryAtMost-trans (f l) (join_below n f) all (EntryAtMost-join_below n f l p) (EntryAtMost-joined_left (join_below n f) (g k)))
    ]) in
    let rises : EntryAtMost (join_below n f) (join_below n g) = join_below-mono n f g (λ l p. elim (eqb_tells l k) [
      | inl hit ↦ subst (λ x. EntryAtMost x (g l)) (sym (ap f hit.1 ∙ none)) tt
      | inr miss ↦ subst (EntryAtMost (f l)) (sym (same l p miss.1)) (EntryAtMost-refl (f l))
    ]) in
    EntryAtMost-antisym (join_below n g) all below (joined-EntryAtMost (join_below n f) (g k) (join_below n g) rises (EntryAtMost-join_below n g k lt))

-- ---- the paths of a matrix that end with a step of a column

-- the path by way of a type that isn't in a set
abbrev path_but : ℕ → List Kind → (ℕ → ℕ → Option Op) → (ℕ → Option Op) → Kind → ℕ → ℕ → Option Op
path_but rest kinds a f to i k = if has rest k then None else path_by kinds a f to i k

-- the entries of a column are joined with the paths by way of all types that aren't in a set
abbrev pub JoinsPathsBut : ℕ → ℕ → List Column → Column → Kind → Column → Column → Type 0
JoinsPathsBut rest growing paths steps to old new =
    (kinds : List Kind) (a : ℕ → ℕ → Option Op) (f e : ℕ → Option Op) → AreGrowing kinds growing → AreColumns (length kinds) paths a
    → ((k : ℕ) → k < length kinds → Tells steps k (f k)) → ((i : ℕ) → i < length kinds → Tells old i (e i))
    → (i : ℕ) → i < length kinds → Tells new i (joined (e i) (join_below (length kinds) (path_but rest kinds a f to i)))

by_none : (x y : Option Op) (from to : Kind) (b : Bool) → b ≡ is_at_least Equal y → (if b then None else composed x y from to) ≡ None
by_none x y from to true there = refl
by_none None y from to false there = refl
by_none (Some a) y from to false there = ap (λ z. composed (Some a) z from to) (not_there y there)

-- by way of no type that has a step
pub JoinsPathsBut-none : (growing : ℕ) (paths : List Column) (steps : Column) (to : Kind) (old : Column) → JoinsPathsBut steps.there growing paths steps to old old
JoinsPathsBut-none growing paths steps to old kinds a f e grows first tells start i p =
    let none : join_below (length kinds) (path_but steps.there kinds a f to i) ≡ None =
    join_below-nothing (length kinds) (path_but steps.there kinds a f to i) (λ k lt. by_none (a i k) (f k) (kind_at kinds i) to (has steps.there k) (tells k lt).there) in
    subst (Tells old i) (sym (ap (joined (e i)) none ∙ joined-none (e i))) (start i p)

-- by way of a further type
pub JoinsPathsBut-more : (rest next growing : ℕ) (paths : List Column) (steps : Column) (to : Kind) (old new : Column) (m : ℕ) → growing < 2 ^ 64 → length paths ≤ types_most → m < length paths
    → has rest m ≡ true → has steps.there m ≡ true → has next m ≡ false → ((k : ℕ) → k < types_most → k ≢ m → has next k ≡ has rest k) → JoinsPathsBut rest growing paths steps to old new
    → JoinsPathsBut next growing paths steps to old
    (joined_column new (normal_column (followed_column (column_at paths m) (told_op (has steps.less m) (has steps.greater m) (has steps.cross m))) growing to))
JoinsPathsBut-more rest next growing paths steps to old new m fits few lt in_rest there gone others joins kinds a f e grows first tells start i p =
    let n = length kinds in
    let op = told_op (has steps.less m) (has steps.greater m) (has steps.cross m) in
    let path = normal_column (followed_column (column_at paths m) op) growing to in
    let within : m < n = rw first.whole at lt in
    let small : n ≤ 64 = rw first.whole at few in
    let step : f m ≡ Some op = told_there steps m (f m) (tells m within) there in
    let one : Tells path i (composed (a i m) (Some op) (kind_at kinds i) to) =
    Tells-path (column_at paths m) op growing (kind_at kinds i) to i (a i m) fits (omega (arith, p, small)) (grows i p) (first.each i m p within) in
    let by_m : path_but next kinds a f to i m ≡ composed (a i m) (Some op) (kind_at kinds i) to =
    ap (λ b. if b then None else path_by kinds a f to i m) gone ∙ ap (λ x. composed (a i m) x (kind_at kinds i) to) step in
    let more : join_below n (path_but next kinds a f to i) ≡ joined (join_below n (path_but rest kinds a f to i)) (path_but next kinds a f to i m) =
    join_below-with n (path_but rest kinds a f to i) (path_but next kinds a f to i) m within (ap (λ b. if b then None else path_by kinds a f to i m) in_rest)
    (λ l q differ. ap (λ b. if b then None else path_by kinds a f to i l) (others l (omega (arith, q, small)) differ)) in
    let before = join_below n (path_but rest kinds a f to i) in
    let same : joined (joined (e i) before) (composed (a i m) (Some op) (kind_at kinds i) to) ≡ joined (e i) (join_below n (path_but next kinds a f to i)) =
    joined-moves (e i) before (composed (a i m) (Some op) (kind_at kinds i) to) ∙ (ap (λ x. joined (e i) (joined before x)) (sym by_m) ∙ ap (joined (e i)) (sym more)) in
    subst (Tells (joined_column new path) i) same
    (Tells-joined new path i (joined (e i) before) (composed (a i m) (Some op) (kind_at kinds i) to) (joins kinds a f e grows first tells start i p) one)

-- by way of all types
pub JoinsPathsBut-all : (rest growing : ℕ) (paths : List Column) (steps : Column) (to : Kind) (old new : Column) → HasNone rest (length paths) → JoinsPathsBut rest growing paths steps to old new
    → JoinsPaths growing paths steps to old new
JoinsPathsBut-all rest growing paths steps to old new none joins kinds a f e grows first tells start i p =
    let same : join_below (length kinds) (path_but rest kinds a f to i) ≡ join_below (length kinds) (path_by kinds a f to i) =
    join_below-same (length kinds) (path_but rest kinds a f to i) (path_by kinds a f to i) (λ k lt. ap (λ b. if b then None else path_by kinds a f to i k) (none k (rw first.whole lt))) in
    subst (Tells new i) (ap (joined (e i)) same) (joins kinds a f e grows first tells start i p)

-- ---- products and rounds

-- the first m columns of a matrix are entries e, joined with the product of two matrices
abbrev pub FirstPaths : (ℕ → ℕ → Option Op) → List Kind → List Column → List Column → List Column → ℕ → Type 0
FirstPaths e kinds a b new m =
    (t u : Table) → t.kinds ≡ kinds → AreColumns (length kinds) a (entry t) → AreColumns (length kinds) b (entry u) → FirstColumns (length kinds) m new (λ i j. joined (e i j) (product_at t u i j))

pub FirstPaths-none : (e : ℕ → ℕ → Option Op) (kinds : List Kind) (a b new : List Column) → length new ≡ length kinds → FirstPaths e kinds a b new 0
FirstPaths-none e kinds a b new whole t u same first second = record { whole = whole; each = λ i j p q. absurd (omega (arith, q)) }

pub FirstPaths-more : (e : ℕ → ℕ → Option Op) (kinds : List Kind) (growing : ℕ) (a b old : List Column) (m : ℕ) (start c : Column) → AreGrowing kinds growing → m < length kinds
    → ((i : ℕ) → i < length kinds → Tells start i (e i m)) → JoinsPaths growing a (column_at b m) (kind_at kinds m) start c → FirstPaths e kinds a b old m → FirstPaths e kinds a b (slice_set old m c) (m + 1)
FirstPaths-more e kinds growing a b old m start c grows lt starts joins firsts t u same first second =
    FirstColumns-more (length kinds) m old (λ i j. joined (e i j) (product_at t u i j)) c lt
    (λ i p.
    subst (λ ks. Tells c i (joined (e i m) (join_below (length ks) (λ k. composed (entry t i k) (entry u k m) (kind_at ks i) (kind_at ks m))))) (sym same)
    (joins kinds (entry t) (λ k. entry u k m) (λ k. e k m) grows first (λ k q. second.each k m q lt) starts i p))
    (firsts t u same first second)

-- with no other entries they are the product
pub FirstPaths-product : (kinds : List Kind) (a b new : List Column) → FirstPaths no_entry kinds a b new (length kinds) → IsProduct kinds a b new
FirstPaths-product kinds a b new firsts t u same first second =
    AreColumns-same (length kinds) new (product_at t u) (entry (times_of t u)) (λ i j p q. sym (entry-table_of t.kinds (product_at t u) i j (rw same p) (rw same q))) (firsts t u same first second)

-- with `Equal` from each type to itself they are a round
pub FirstPaths-round : (kinds : List Kind) (a b new : List Column) → FirstPaths one_at kinds a b new (length kinds) → IsRoundOf kinds a b new
FirstPaths-round kinds a b new firsts t u same first second =
    AreColumns-same (length kinds) new (λ i j. joined (one_at i j) (product_at t u i j)) (entry (round_of t u)) (λ i j p q. sym (entry-round_of t u i j (rw same p) (rw same q))) (firsts t u same first second)

-- ---- closures

-- what so many rounds make
abbrev pub AreRounds : List Kind → List Column → List Column → ℕ → Type 0
AreRounds kinds a x n = (t : Table) → t.kinds ≡ kinds → AreColumns (length kinds) a (entry t) → AreColumns (length kinds) x (entry (rounds t n))

pub AreRounds-none : (kinds : List Kind) (a x : List Column) → AreColumns (length kinds) x one_at → AreRounds kinds a x 0
AreRounds-none kinds a x one t same first =
    let here : AreColumns (length kinds) x (entry (one_of kinds)) = AreColumns-table_of kinds x one_at one in
    subst (λ m. AreColumns (length kinds) x (entry m)) (ap one_of (sym same) ∙ sym (rounds-none t)) here

pub AreRounds-more : (kinds : List Kind) (a x next : List Column) (n : ℕ) → IsRoundOf kinds a x next → AreRounds kinds a x n → AreRounds kinds a next (n + 1)
AreRounds-more kinds a x next n round so_far t same first =
    subst (λ m. AreColumns (length kinds) next (entry m)) (sym (ap (rounds t) (add-one n) ∙ rounds-more t n)) (round t (rounds t n) same first (so_far t same first))

rounds-IsRound : (m : Table) (n : ℕ) → IsRound m (rounds m n)
rounds-IsRound m zero = subst (IsRound m) (sym (rounds-none m)) (IsRound-one_of m)
rounds-IsRound m (suc n) = subst (IsRound m) (sym (rounds-more m n)) (IsRound-round_of m (rounds m n) (rounds-IsRound m n))

-- after as many rounds as can change something
pub AreRounds-all : (kinds : List Kind) (a x : List Column) (n : ℕ) → n ≡ 4 * (length kinds * length kinds) → AreRounds kinds a x n → IsClosed kinds a x
AreRounds-all kinds a x n most so_far t same first =
    subst (λ r. AreColumns (length kinds) x (entry (rounds t r))) (most ∙ ap (λ ks. 4 * (length ks * length ks)) (sym same)) (so_far t same first)

-- after a round that changes nothing
pub AreRounds-still : (kinds : List Kind) (a x next : List Column) (n : ℕ) → IsRoundOf kinds a x next → next ≡ x → AreRounds kinds a x n → IsClosed kinds a x
AreRounds-still kinds a x next n round still so_far t same first =
    let r = rounds t n in
    let is : IsRound t r = rounds-IsRound t n in
    let here = so_far t same first in
    let after : AreColumns (length kinds) x (entry (round_of t r)) = subst (λ cs. AreColumns (length kinds) cs (entry (round_of t r))) still (round t r same first here) in
    let unchanged : r ≡ round_of t r =
    same_table t.kinds (sum_at (one_of t.kinds) (times_of t r)) r is.whole is.kinds (λ i j p q.
    let p' = rw same at p in
    let q' = rw same at q in
    Tells-one (column_at x j) i (entry r i j) (entry (round_of t r) i j) (here.each i j p' q') (after.each i j p' q') ∙ entry-table_of t.kinds (sum_at (one_of t.kinds) (times_of t r)) i j p q) in
    subst (λ m. AreColumns (length kinds) x (entry m)) (closure-still t r is (ap (λ m. m.cells) (sym unchanged))).1 here

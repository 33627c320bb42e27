-- The rounds of the least closure: each round joins `one` and a step before what was there.
use Rattle.std.proofs.Common.{◌≡◌, ◌≢◌, ◌+◌, ◌*◌, ◌/◌, ◌%◌, ◌<◌, ◌≤◌, ℕ, zero, suc, Option, None, List, length, get_or, ◌⊎◌, inl, inr, refl, ap, sym, ◌∙◌, subst, arith}
use Rattle.std.proofs.lemmas.Bool.{cases_lt}
use Rattle.std.proofs.lemmas.List.{get_or_past, ext_get_or}
use Rattle.std.proofs.lemmas.Nat.{div-add-mod'}
use Rattle.sel_algebra.specs.declared.vocabulary.Op.{Op}
use Rattle.sel_algebra.specs.declared.vocabulary.Kind.{Kind}
use Rattle.sel_algebra.specs.Entries.{joined, EntryAtMost}
use Rattle.sel_algebra.specs.Table.{Table, EachPair, entry, IsMatrix, one_at, one_of, through, product_at, times_of, sum_at, plus_of}
use Rattle.sel_algebra.specs.Closure.{TableAtMost, round_of, IsClosedUnder, IsClosureOf, rounds, closure_of}
use Rattle.sel_algebra.specs.MatrixLaws.{ClosureExists, ClosureIsUnique}
use Rattle.sel_algebra.proofs.EntryLemmas.{EntryAtMost-refl, EntryAtMost-joined_left, EntryAtMost-trans, EntryAtMost-antisym, joined-mono, composed-mono, join_below-mono}
use Rattle.sel_algebra.proofs.TableLemmas.{row-lt, column-lt, entry-table_of, entry-plus_of, whole-table_of, IsMatrix-one_of, IsMatrix-times_of, IsMatrix-plus_of}
use Rattle.sel_algebra.proofs.RankLemmas.{ranks, ranks-most, room, same_or_higher}

-- a round from its parts
pub round_of-parts : (m x one times next : Table) → next ≡ plus_of one times → one ≡ one_of m.kinds → times ≡ times_of m x → next ≡ round_of m x
round_of-parts m x one times next e f g = e ∙ (λ i. plus_of (f i) (g i))

-- what a round keeps: it rises, and stays below all that is closed
pub record IsRound (m x : Table) : Type 0 where
  pub kinds : x.kinds ≡ m.kinds
  pub whole : length x.cells ≡ length m.kinds * length m.kinds
  pub rises : TableAtMost x (round_of m x)
  pub below : (y : Table) → y.kinds ≡ m.kinds → IsClosedUnder m y → TableAtMost x y

pub entry-round_of : (m x : Table) (i j : ℕ) → i < length m.kinds → j < length m.kinds → entry (round_of m x) i j ≡ joined (one_at i j) (product_at m x i j)
entry-round_of m x i j p q = rw (entry-plus_of (one_of m.kinds) (times_of m x) i j p q, entry-table_of m.kinds one_at i j p q, entry-table_of m.kinds (product_at m x) i j p q) refl

TableAtMost-trans : (x y z : Table) → y.kinds ≡ x.kinds → TableAtMost x y → TableAtMost y z → TableAtMost x z
TableAtMost-trans x y z e f g i j p q = EntryAtMost-trans (entry x i j) (entry y i j) (entry z i j) (f i j p q) (g i j (rw e p) (rw e q))

-- a round of a greater matrix is greater
round_of-mono : (m x y : Table) → x.kinds ≡ m.kinds → TableAtMost x y → TableAtMost (round_of m x) (round_of m y)
round_of-mono m x y e h i j p q =
    let products = join_below-mono (length m.kinds) (through m x i j) (through m y i j) (λ k lt.
    composed-mono (entry m i k) (entry x k j) (entry m i k) (entry y k j) _ _ (EntryAtMost-refl (entry m i k)) (h k j (rw e lt) (rw e q))) in
    rw (entry-round_of m x i j p q, entry-round_of m y i j p q) (joined-mono (one_at i j) (product_at m x i j) (one_at i j) (product_at m y i j) (EntryAtMost-refl (one_at i j)) products)

-- `one` is at most each round
one_of-TableAtMost : (m x : Table) → TableAtMost (one_of m.kinds) (round_of m x)
one_of-TableAtMost m x i j p q = rw (entry-table_of m.kinds one_at i j p q, entry-round_of m x i j p q) (EntryAtMost-joined_left (one_at i j) (product_at m x i j))

pub IsRound-one_of : (m : Table) → IsRound m (one_of m.kinds)
IsRound-one_of m = record {
  kinds = refl;
  whole = whole-table_of m.kinds one_at;
  rises = one_of-TableAtMost m (one_of m.kinds);
  below = λ y e closed. TableAtMost-trans (one_of m.kinds) (round_of m y) y refl (one_of-TableAtMost m y) closed;
}

pub IsRound-round_of : (m x : Table) → IsRound m x → IsRound m (round_of m x)
IsRound-round_of m x r = record {
  kinds = refl;
  whole = whole-table_of m.kinds (sum_at (one_of m.kinds) (times_of m x));
  rises = round_of-mono m x (round_of m x) r.kinds r.rises;
  below = λ y e closed. TableAtMost-trans (round_of m x) (round_of m y) y refl (round_of-mono m x y r.kinds (r.below y e closed)) closed;
}

-- a round that changes nothing is the closure
pub IsClosureOf-round_of : (m x : Table) → IsRound m x → round_of m x ≡ x → IsClosureOf m x
IsClosureOf-round_of m x r same = record {
  kinds = r.kinds;
  closed = subst (λ t. TableAtMost t x) (sym same) (λ i j p q. EntryAtMost-refl (entry x i j));
  least = r.below;
}

-- what holds between entries of two matrices holds place by place
by_place : (n : ℕ) (xs ys : List (Option Op)) → length xs ≡ n * n → ((i j : ℕ) → i < n → j < n → EntryAtMost (get_or xs (i * n + j) None) (get_or ys (i * n + j) None)) → (p : ℕ)
    → EntryAtMost (get_or xs p None) (get_or ys p None)
by_place n xs ys whole h p = elim (cases_lt p (n * n)) [
  | inl lt ↦ rw (div-add-mod' p n) at (h (p / n) (p % n) (row-lt p n lt) (column-lt p n lt))
  | inr past ↦ rw (get_or_past xs p None (omega arith)) tt
]

-- a round changes nothing, or entries rise
round-rises : (m x : Table) → IsRound m x → (round_of m x ≡ x) ⊎ (ranks x.cells < ranks (round_of m x).cells)
round-rises m x r =
    let next = round_of m x in
    let rises = by_place (length m.kinds) x.cells next.cells r.whole (λ i j p q.
    subst (λ k. EntryAtMost (get_or x.cells (i * length k + j) None) (entry next i j)) r.kinds (r.rises i j (rw r.kinds p) (rw r.kinds q))) in
    elim (same_or_higher x.cells next.cells (r.whole ∙ sym (IsRound-round_of m x r).whole) rises) [
      | inl same ↦ inl (λ i. record { kinds = (sym r.kinds) i; cells = (sym same) i })
      | inr higher ↦ inr higher
    ]

-- a round that changes something leaves less room
pub room-round_of : (m x : Table) → IsRound m x → (round_of m x).cells ≢ x.cells → room (round_of m x).cells < room x.cells
room-round_of m x r differ = elim (round-rises m x r) [
  | inl same ↦ absurd (differ (ap (λ t. t.cells) same))
  | inr higher ↦ omega (arith, higher, ranks-most (round_of m x).cells, r.whole, (IsRound-round_of m x r).whole)
]

pub rounds-none : (m : Table) → rounds m 0 ≡ one_of m.kinds
unfolding rounds
rounds-none m = refl

pub rounds-more : (m : Table) (n : ℕ) → rounds m (suc n) ≡ round_of m (rounds m n)
unfolding rounds
rounds-more m n = refl

IsRound-rounds : (m : Table) (n : ℕ) → IsRound m (rounds m n)
unfolding rounds
IsRound-rounds m zero = IsRound-one_of m
IsRound-rounds m (suc n) = IsRound-round_of m (rounds m n) (IsRound-rounds m n)

-- after n rounds a further one changes nothing, or entries have risen n steps
settles : (m : Table) (n : ℕ) → (round_of m (rounds m n) ≡ rounds m n) ⊎ (n ≤ ranks (rounds m n).cells)
unfolding rounds
settles m zero = inr (omega arith)
settles m (suc n) = elim (settles m n) [
  | inl still ↦ inl (ap (round_of m) still)
  | inr risen ↦ elim (round-rises m (rounds m n) (IsRound-rounds m n)) [
    | inl still ↦ inl (ap (round_of m) still)
    | inr higher ↦ inr (omega (arith, risen, higher))
  ]
]

pub IsClosureOf-closure_of : (m : Table) → IsClosureOf m (closure_of m)
IsClosureOf-closure_of m =
    let r : IsRound m (closure_of m) = IsRound-rounds m _ in
    elim (settles m (4 * (length m.kinds * length m.kinds))) [
      | inl still ↦ IsClosureOf-round_of m (closure_of m) r still
      | inr risen ↦ elim (round-rises m (closure_of m) r) [
        | inl still ↦ IsClosureOf-round_of m (closure_of m) r still
        | inr higher ↦ absurd (omega (arith, risen, higher, ranks-most (round_of m (closure_of m)).cells, (IsRound-round_of m (closure_of m) r).whole))
      ]
    ]

IsMatrix-rounds : (m : Table) → IsMatrix m → (n : ℕ) → IsMatrix (rounds m n)
unfolding rounds
IsMatrix-rounds m matrix zero = IsMatrix-one_of m.kinds matrix.few
IsMatrix-rounds m matrix (suc n) = IsMatrix-plus_of (one_of m.kinds) (times_of m (rounds m n)) refl (IsMatrix-one_of m.kinds matrix.few) (IsMatrix-times_of m (rounds m n) matrix)

pub IsMatrix-closure_of : (m : Table) → IsMatrix m → IsMatrix (closure_of m)
IsMatrix-closure_of m matrix = IsMatrix-rounds m matrix _

-- two tables of whole rows with the same entries are the same
same_tables : (kinds : List Kind) (x y : Table) → x.kinds ≡ kinds → y.kinds ≡ kinds → length x.cells ≡ length kinds * length kinds → length y.cells ≡ length kinds * length kinds
    → EachPair kinds (λ i j. entry x i j ≡ entry y i j) → x ≡ y
same_tables kinds x y e f whole_x whole_y same =
    let n = length kinds in
    let cells : x.cells ≡ y.cells = ext_get_or None x.cells y.cells (whole_x ∙ sym whole_y) (λ p inside.
    let lt : p < n * n = rw whole_x at inside in
    rw (e, f, div-add-mod' p n) at (same (p / n) (p % n) (row-lt p n lt) (column-lt p n lt))) in
    λ i. record { kinds = (e ∙ sym f) i; cells = cells i }

pub closure-unique : (m x : Table) → length x.cells ≡ length m.kinds * length m.kinds → IsClosureOf m x → x ≡ closure_of m
closure-unique m x whole c =
    let y = closure_of m in
    let d : IsClosureOf m y = IsClosureOf-closure_of m in
    same_tables m.kinds x y c.kinds d.kinds whole (IsRound-rounds m _).whole (λ i j p q.
    EntryAtMost-antisym (entry x i j) (entry y i j) (c.least y d.kinds d.closed i j (rw c.kinds p) (rw c.kinds q)) (d.least x c.kinds c.closed i j (rw d.kinds p) (rw d.kinds q)))

-- a round that changes no entry is the closure
pub closure-still : (m x : Table) → IsRound m x → (round_of m x).cells ≡ x.cells → IsClosureOf m x × (x ≡ closure_of m)
closure-still m x r same =
    let is = IsClosureOf-round_of m x r (λ i. record { kinds = (sym r.kinds) i; cells = same i }) in
    (is, closure-unique m x r.whole is)

pub closure_exists : ClosureExists
closure_exists m = (IsClosureOf-closure_of m, IsMatrix-closure_of m)

pub closure_is_unique : ClosureIsUnique
closure_is_unique m x matrix c = closure-unique m x (matrix.whole ∙ ap (λ k. length k * length k) c.kinds) c

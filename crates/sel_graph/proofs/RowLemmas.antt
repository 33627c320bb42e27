-- Rows that are filled one after another, and the rows after each number of steps.
use Rattle.std.proofs.Common.{◌≡◌, ◌↔◌, ℕ, zero, suc, ◌+◌, ◌-◌, ◌<◌, ◌≤◌, ◌==◌, nat_lt, Bool, true, false, ◌&&◌, ◌||◌, List, [], ◌∷◌, ◌++◌, length, get_or, replicate, slice_set, inl, inr, refl, sym, ap, subst, ◌∙◌, length-append, append_assoc, arith}
use Rattle.std.specs.FinSet as set
use Rattle.std.specs.List.{list_any, All}
use Rattle.std.proofs.lemmas.Bool.{cases_eq, cases_lt, eqb-true, eq-eqb, ne_eqb, lt-ltb, le-ltb, true≢false}
use Rattle.std.proofs.lemmas.List.Folds.{list_any-append}
use Rattle.std.proofs.lemmas.List.Elements.{All-contains, Contains-append_right}
use Rattle.std.proofs.lemmas.List.{length-replicate, length-set, get_or_append_left, get_or_past, append-nil}
use Rattle.std.proofs.Math.Seq.{get_or-append_seam}
use Rattle.std.proofs.Math.Bool.{or_assoc, or-false}
use Rattle.bit_rows.specs.Sets.{NumberSet, has, set_at, numbers_from}
use Rattle.bit_rows.proofs.SetLemmas.{has-empty, has-insert, numbers_in, set_at-same, set_at-other}
use Rattle.sel_graph.specs.Rows.{HasRows, Leads, StepsBy, Back, level_at, HasLevels}

-- two tests that are true for one another are one
pub same_truth : (a b : Bool) → (a ≡ true) ↔ (b ≡ true) → a ≡ b
same_truth true true same = refl
same_truth true false same = sym (same.0 refl)
same_truth false true same = same.1 refl
same_truth false false same = refl

-- ---- rows that are filled one after another

-- the first i of k rows have the numbers that they should have
pub record AreFilled (k : ℕ) (Holds : ℕ → ℕ → Type 0) (rows : List NumberSet) (i : ℕ) : Type 0 where
  pub long : length rows ≡ k
  pub marked : (r n : ℕ) → r < i → (has (set_at rows r) n ≡ true) ↔ Holds r n

pub AreFilled-none : (k : ℕ) (Holds : ℕ → ℕ → Type 0) (rows : List NumberSet) → rows ≡ replicate k set.empty → AreFilled k Holds rows 0
AreFilled-none k Holds rows is = record { long = ap length is ∙ length-replicate k set.empty; marked = λ r n never. absurd (omega (arith, never)) }

pub AreFilled-more : (k : ℕ) (Holds : ℕ → ℕ → Type 0) (rows : List NumberSet) (i : ℕ) (s : NumberSet) → i < k → ((n : ℕ) → (has s n ≡ true) ↔ Holds i n) → AreFilled k Holds rows i
    → AreFilled k Holds (slice_set rows i s) (i + 1)
AreFilled-more k Holds rows i s inside row f = record {
  long = length-set rows i s ∙ f.long;
  marked = λ r n below. elim (cases_eq r i) [
    | inl same ↦ rw (same, set_at-same rows i s (rw f.long inside)) (row n)
    | inr other ↦ rw (set_at-other rows i r s other) (f.marked r n (omega (arith, below, other)))
  ];
}

pub HasRows-filled : (k : ℕ) (Holds : ℕ → ℕ → Type 0) (rows : List NumberSet) (i : ℕ) → k ≤ i → AreFilled k Holds rows i → HasRows k Holds rows
HasRows-filled k Holds rows i all f = record { long = f.long; marked = λ r n inside. f.marked r n (omega (arith, inside, all)) }

-- ---- steps

-- steps that do the same among the first k places lead to the same
Leads-same : {R S : ℕ → ℕ → Type 0} (k : ℕ) → ((p q : ℕ) → p < k → R p q ↔ S p q) → ((p q : ℕ) → p < k → S p q → q < k) → (n p q : ℕ) → p < k → Leads R n p q ↔ Leads S n p q
Leads-same k same stays zero p q inside = (λ e. e, λ e. e)
Leads-same k same stays (suc n) p q inside = (
  λ (m, step, rest). let step_s = (same p m inside).0 step in (m, step_s, (Leads-same k same stays n m q (stays p m inside step_s)).0 rest),
  λ (m, step, rest). (m, (same p m inside).1 step, (Leads-same k same stays n m q (stays p m inside step)).1 rest),
)

pub HasLevels-same : {R S : ℕ → ℕ → Type 0} (count k : ℕ) (levels : List (List NumberSet)) → ((p q : ℕ) → p < k → R p q ↔ S p q) → ((p q : ℕ) → p < k → S p q → q < k)
    → HasLevels count k R levels → HasLevels count k S levels
HasLevels-same count k levels agree stays l = record {
  long = l.long;
  each = λ n below. record {
    long = (l.each n below).long;
    marked = λ p q inside.
        let here = (l.each n below).marked p q inside in
        let same = Leads-same k agree stays n p q inside in
        (λ h. same.0 (here.0 h), λ h. here.1 (same.1 h));
  };
}

-- ---- steps the other way

-- one more step at the end
Leads-end : (S : ℕ → ℕ → Type 0) (n p m q : ℕ) → Leads S n p m → S m q → Leads S (suc n) p q
Leads-end S zero p m q same step = (q, subst (λ x. S x q) (sym same) step, refl)
Leads-end S (suc n) p m q (a, first, rest) step = (a, first, Leads-end S n a m q rest step)

-- so many steps the other way lead from q to p just where so many lead from p to q
pub Leads-back : (S : ℕ → ℕ → Type 0) (n p q : ℕ) → Leads (Back S) n q p ↔ Leads S n p q
Leads-back S zero p q = (λ same. sym same, λ same. sym same)
Leads-back S (suc n) p q = (
  λ (m, step, rest). Leads-end S n p m q ((Leads-back S n p m).0 rest) step,
  λ (m, step, rest). Leads-end (Back S) n q m p ((Leads-back S n m q).1 rest) step,
)

-- no row past the last has a number
set_at-past : (rows : List NumberSet) (p q : ℕ) → length rows ≤ p → has (set_at rows p) q ≡ false
set_at-past rows p q past = rw (get_or_past rows p set.empty past) (has-empty q)

-- a step by rows starts at one of them
pub StepsBy-starts : (rows : List NumberSet) (p q : ℕ) → StepsBy rows p q → p < length rows
StepsBy-starts rows p q step = elim (cases_lt p (length rows)) [ inl below ↦ below | inr past ↦ absurd (true≢false (sym step ∙ set_at-past rows p q past)) ]

-- rows say where steps come from, if each step starts at one of their places
pub steps_back : {S : ℕ → ℕ → Type 0} (k : ℕ) (rows : List NumberSet) → HasRows k S rows → ((p q : ℕ) → S p q → p < k) → (q p : ℕ) → Back (StepsBy rows) q p ↔ Back S q p
steps_back k rows r starts q p = (
  λ step. (r.marked p q (rw (sym r.long) (StepsBy-starts rows p q step))).0 step,
  λ step. (r.marked p q (starts p q step)).1 step,
)

-- ---- levels that are added one after another

level_at-before : (levels : List (List NumberSet)) (level : List NumberSet) (n : ℕ) → n < length levels → level_at (levels ++ level ∷ []) n ≡ level_at levels n
level_at-before levels level n below = get_or_append_left levels (level ∷ []) [] n below

level_at-last : (levels : List (List NumberSet)) (level : List NumberSet) → level_at (levels ++ level ∷ []) (length levels) ≡ level
level_at-last levels level = get_or-append_seam levels level [] []

pub HasLevels-first : (k : ℕ) (Steps : ℕ → ℕ → Type 0) (level : List NumberSet) → HasRows k (λ p q. p ≡ q) level → HasLevels 1 k Steps (level ∷ [])
HasLevels-first k Steps level rows = record { long = refl; each = λ n below. first n (omega (arith, below)) }
  where
    first : (n : ℕ) → n ≡ 0 → HasRows k (Leads Steps n) (level_at (level ∷ []) n)
    first zero is = rows
    first (suc n) is = absurd (omega (arith, is))

one_more : (k : ℕ) (Steps : ℕ → ℕ → Type 0) (last level : List NumberSet) (n : ℕ) → ((p q : ℕ) → p < k → Steps p q → q < k) → HasRows k (Leads Steps n) last
    → HasRows k (λ p q. (m : ℕ) × Steps p m × StepsBy last m q) level → HasRows k (Leads Steps (suc n)) level
one_more k Steps last level n stays before rows = record {
  long = rows.long;
  marked = λ p q inside. (
    λ h. let (m, step, rest) = (rows.marked p q inside).0 h in (m, step, (before.marked m q (stays p m inside step)).0 rest),
    λ (m, step, rest). (rows.marked p q inside).1 (m, step, (before.marked m q (stays p m inside step)).1 rest),
  );
}

pub HasLevels-more : (k : ℕ) (Steps : ℕ → ℕ → Type 0) (levels : List (List NumberSet)) (level : List NumberSet) (n : ℕ) → ((p q : ℕ) → p < k → Steps p q → q < k) → 1 ≤ n → HasLevels n k Steps levels
    → HasRows k (λ p q. (m : ℕ) × Steps p m × StepsBy (level_at levels (n - 1)) m q) level → HasLevels (n + 1) k Steps (levels ++ level ∷ [])
HasLevels-more k Steps levels level n stays some l rows = record {
  long = length-append levels (level ∷ []) ∙ ap (λ x. x + 1) l.long;
  each = λ j below. elim (cases_lt j n) [
    | inl before ↦ rw (level_at-before levels level j (rw l.long before)) (l.each j before)
    | inr last ↦
        let same : length levels ≡ j = l.long ∙ omega (arith, below, last) in
        let more : suc (n - 1) ≡ j = omega (arith, below, last, some) in
        subst (λ x. HasRows k (Leads Steps x) (level_at (levels ++ level ∷ []) x)) same
        (rw (level_at-last levels level) (subst (λ x. HasRows k (Leads Steps x) level) (more ∙ sym same) (one_more k Steps (level_at levels (n - 1)) level (n - 1) stays (l.each (n - 1) (omega (arith, some))) rows)))
  ];
}

-- ---- rows that grow

-- the row with one number alone
pub row_alone : (r n : ℕ) → (has (set.insert set.empty r) n ≡ true) ↔ (r ≡ n)
row_alone r n =
    let is : has (set.insert set.empty r) n ≡ (r == n) = has-insert set.empty r n ∙ rw (has-empty n) refl in
    (λ h. eqb-true r n (sym is ∙ h), λ same. is ∙ eq-eqb r n same)

-- one more of the numbers that are left
pub split_next : (all yielded rest left : List ℕ) (m : ℕ) → all ≡ yielded ++ rest → rest ≡ m ∷ left → all ≡ (yielded ++ m ∷ []) ++ left
split_next all yielded rest left m split next = split ∙ (ap (λ xs. yielded ++ xs) next ∙ sym (append_assoc yielded (m ∷ []) left))

-- a number that comes next is in the set
pub split_has : (s : NumberSet) (yielded rest left : List ℕ) (m : ℕ) → numbers_from s 0 320 ≡ yielded ++ rest → rest ≡ m ∷ left → has s m ≡ true
split_has s yielded rest left m split next =
    let all : All (λ x. has s x ≡ true) (yielded ++ m ∷ left) = subst (All (λ x. has s x ≡ true)) (split ∙ ap (λ xs. yielded ++ xs) next) (numbers_in s 0 320) in
    All-contains (λ x. has s x ≡ true) (yielded ++ m ∷ left) m all (Contains-append_right yielded (m ∷ left) m (0, omega arith, refl))

-- where none is left, all numbers have come
pub split_all : (all yielded rest : List ℕ) → all ≡ yielded ++ rest → rest ≡ [] → yielded ≡ all
split_all all yielded rest split none = sym (split ∙ (ap (λ xs. yielded ++ xs) none ∙ append-nil yielded))

-- a test among one number more
pub any-push : (test : ℕ → Bool) (xs : List ℕ) (x : ℕ) → list_any test (xs ++ x ∷ []) ≡ (list_any test xs || test x)
any-push test xs x = list_any-append test xs (x ∷ []) ∙ ap (λ b. list_any test xs || b) (or-false (test x))

-- one more of three
pub or_more : (a b c d : Bool) → a ≡ (b || c) → (a || d) ≡ (b || (c || d))
or_more a b c d is = ap (λ x. x || d) is ∙ or_assoc b c d

-- the numbers up to one more that pass a test
pub one_place_more : (f : ℕ → Bool) (i p : ℕ) → ((nat_lt p i && f p) || (f i && (i == p))) ≡ (nat_lt p (i + 1) && f p)
one_place_more f i p = elim (cases_eq p i) [
  | inl same ↦ rw (same, le-ltb i i (omega arith), lt-ltb i (i + 1) (omega arith), eq-eqb i i refl) (and-true (f i))
  | inr other ↦ elim (cases_lt p i) [
    | inl below ↦ rw (lt-ltb p i below, lt-ltb p (i + 1) (omega (arith, below)), ne_eqb i p (λ e. other (sym e))) (nothing_more (f p) (f i))
    | inr past ↦ rw (le-ltb p i past, le-ltb p (i + 1) (omega (arith, past, other)), ne_eqb i p (λ e. other (sym e))) (and-false (f i))
  ]
]
  where
    and-true : (b : Bool) → (b && true) ≡ b
    and-true true = refl
    and-true false = refl

    and-false : (b : Bool) → (b && false) ≡ false
    and-false true = refl
    and-false false = refl

    nothing_more : (b c : Bool) → (b || (c && false)) ≡ b
    nothing_more true c = refl
    nothing_more false true = refl
    nothing_more false false = refl

-- one row more of those that have a number
pub row_with-more : (rows : List NumberSet) (s : NumberSet) (q i p : ℕ) → has s p ≡ (nat_lt p i && has (set_at rows p) q)
    → (has s p || (has (set_at rows i) q && (i == p))) ≡ (nat_lt p (i + 1) && has (set_at rows p) q)
row_with-more rows s q i p before = rw before (one_place_more (λ x. has (set_at rows x) q) i p)

-- all rows that have a number
pub rows_with-all : (rows : List NumberSet) (q p : ℕ) → (nat_lt p (length rows) && has (set_at rows p) q) ≡ has (set_at rows p) q
rows_with-all rows q p = elim (cases_lt p (length rows)) [
  | inl below ↦ rw (lt-ltb p (length rows) below) refl
  | inr past ↦ rw (le-ltb p (length rows) past, set_at-past rows p q past) refl
]

-- an item of a list doesn't rest on what stands past its end
pub same_default : (xs : List (List NumberSet)) (i : ℕ) (d e : List NumberSet) → i < length xs → get_or xs i d ≡ get_or xs i e
same_default [] i d e within = absurd (omega arith)
same_default (x ∷ xs) zero d e within = refl
same_default (x ∷ xs) (suc i) d e within = same_default xs i d e (omega (arith, within))

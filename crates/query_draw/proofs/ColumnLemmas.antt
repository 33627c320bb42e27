-- Columns of bits, and the entries that they have.
use Rattle.std.proofs.Common.{◌≡◌, ◌≢◌, ℕ, zero, suc, ◌+◌, ◌-◌, ◌*◌, ◌/◌, ◌%◌, ◌<◌, ◌≤◌, ◌==◌, ◌^◌, Bool, true, false, not, ◌&&◌, ◌||◌, if◌then◌else◌, Option, Some, None, option_map, List, length, slice_index_or, slice_set, inl, inr, refl, sym, ap, subst, ◌∙◌, arith}
use Rattle.std.specs.Int.{bit_at, bit_not, w64}
use Rattle.std.specs.Int.Bits.{or_zero_l}
use Rattle.std.specs.Int.RustNames.{bit_and, bit_or}
use Rattle.std.proofs.lemmas.Bool.{and_parts, eqb-true}
use Rattle.std.proofs.lemmas.Bool.Decides.{eqb_tells}
use Rattle.std.proofs.lemmas.List.{ext_get_or, get_or-set_same, get_or-set_other, length-set, length-map}
use Rattle.std.proofs.lemmas.List.FromFn.{length-range_with_len, get_or-map-range_with_len}
use Rattle.std.specs.List.{range_with_len}
use Rattle.std.proofs.lemmas.Nat.{div-add-mod'}
use Rattle.std.proofs.lemmas.Nat.Bits.{bit_at-zero, bit_at-lt, bit_at_set_same, bit_at_set_other, bit_at_not}
use Rattle.bit_rows.proofs.WordLemmas.{either_bit, both_bit}
use Rattle.sel_algebra.specs.declared.vocabulary.Op.{Op}
use Rattle.sel_algebra.specs.declared.vocabulary.Op.TheVariants.{Equal, Less, Greater, Diamond, Cross}
use Rattle.sel_algebra.specs.declared.vocabulary.Kind.{Kind}
use Rattle.sel_algebra.specs.declared.vocabulary.Kind.TheVariants.{Fixed, Growing}
use Rattle.sel_algebra.specs.Operators.{at_most, compose_of, normal_of}
use Rattle.sel_algebra.specs.Entries.{joined, composed}
use Rattle.sel_algebra.specs.Table.{Table, kind_at, entry, EachPair, laid_out, table_of, one_at}
use Rattle.sel_algebra.proofs.TableLemmas.{row-lt, column-lt, entry-table_of, whole-table_of}
use Rattle.query_draw.specs.declared.columns.Column.{Column}
use Rattle.query_draw.specs.Columns.{has, is_growing, is_at_least, Tells, no_column, no_entry, column_at, FirstColumns, AreColumns, shown, equal_column, joined_column, followed_column, normal_column, AreJoined, told_op}

-- ---- sets

not_test : (x : ℕ) → x < 2 → (1 - x == 1) ≡ not (x == 1)
not_test zero p = refl
not_test (suc zero) p = refl
not_test (suc (suc x)) p = absurd (omega (arith, p))

pub has_none : (i : ℕ) → has 0 i ≡ false
has_none i = rw (bit_at-zero i) refl

has_not : (a i : ℕ) → a < 2 ^ 64 → i < 64 → has (bit_not w64 a) i ≡ not (has a i)
has_not a i fits lt = ap (λ x. x == 1) (bit_at_not w64 a i fits lt) ∙ not_test (bit_at a i) (bit_at-lt a i)

-- a set with a further number
pub has_same : (n t : ℕ) → t < 64 → has (bit_or n (1 * 2 ^ t % 2 ^ 64)) t ≡ true
has_same n t lt = rw (bit_at_set_same w64 n t lt) refl

pub has_other : (n t i : ℕ) → t < 64 → i ≢ t → has (bit_or n (1 * 2 ^ t % 2 ^ 64)) i ≡ has n i
has_other n t i lt differ = rw (bit_at_set_other w64 n t lt i differ) refl

-- the set of one number
has_one : (t i : ℕ) → t < 64 → has (1 * 2 ^ t % 2 ^ 64) i ≡ (i == t)
has_one t i lt = elim (eqb_tells i t) [
  | inl hit ↦ rw (hit.0, hit.1, ← or_zero_l (1 * 2 ^ t % 2 ^ 64)) (has_same 0 t lt)
  | inr miss ↦ rw (miss.0, ← or_zero_l (1 * 2 ^ t % 2 ^ 64)) (has_other 0 t i lt miss.1 ∙ has_none i)
]

-- ---- what a column tells

pub Tells-none : (i : ℕ) → Tells no_column i None
Tells-none i = record { there = has_none i; less = has_none i; greater = has_none i; cross = has_none i }

one_there : (op : Op) (b : Bool) → (op ≡ Equal → ⊥) → is_at_least op (if b then Some Equal else None) ≡ false
one_there op false other = refl
one_there Equal true other = absurd (other refl)
one_there Less true other = refl
one_there Greater true other = refl
one_there Diamond true other = refl
one_there Cross true other = refl

equal_there : (b : Bool) → is_at_least Equal (if b then Some Equal else None) ≡ b
equal_there true = refl
equal_there false = refl

pub Tells-equal : (t i : ℕ) → t < 64 → Tells (equal_column t) i (one_at i t)
Tells-equal t i lt = record {
  there = has_one t i lt ∙ sym (equal_there (i == t));
  less = has_none i ∙ sym (one_there Less (i == t) (λ e. cc));
  greater = has_none i ∙ sym (one_there Greater (i == t) (λ e. cc));
  cross = has_none i ∙ sym (one_there Cross (i == t) (λ e. cc));
}

or_false : (b : Bool) → b ≡ (b || false)
or_false true = refl
or_false false = refl

-- `Diamond` is a join of others, and the other operators are none
least_joined : (op : Op) (x y : Option Op) → op ≢ Diamond → (is_at_least op x || is_at_least op y) ≡ is_at_least op (joined x y)
least_joined op None y other = refl
least_joined op (Some a) None other = sym (or_false (at_most op a))
least_joined Equal (Some a) (Some b) other = grind (arith)
least_joined Less (Some a) (Some b) other = grind (arith)
least_joined Greater (Some a) (Some b) other = grind (arith)
least_joined Diamond (Some a) (Some b) other = absurd (other refl)
least_joined Cross (Some a) (Some b) other = grind (arith)

pub Tells-joined : (a b : Column) (i : ℕ) (x y : Option Op) → Tells a i x → Tells b i y → Tells (joined_column a b) i (joined x y)
Tells-joined a b i x y p q = record {
  there = either_bit a.there b.there i ∙ ((λ k. p.there k || q.there k) ∙ least_joined Equal x y (λ e. cc));
  less = either_bit a.less b.less i ∙ ((λ k. p.less k || q.less k) ∙ least_joined Less x y (λ e. cc));
  greater = either_bit a.greater b.greater i ∙ ((λ k. p.greater k || q.greater k) ∙ least_joined Greater x y (λ e. cc));
  cross = either_bit a.cross b.cross i ∙ ((λ k. p.cross k || q.cross k) ∙ least_joined Cross x y (λ e. cc));
}

-- an entry and then an operator, and the normal form of an entry
abbrev followed : Option Op → Op → Option Op
followed x op = option_map (λ a. compose_of a op) x

abbrev normal_entry : Option Op → Kind → Kind → Option Op
normal_entry x from to = option_map (λ a. normal_of a from to) x

Tells-followed : (c : Column) (op : Op) (i : ℕ) (x : Option Op) → Tells c i x → Tells (followed_column c op) i (followed x op)
Tells-followed c op i x t = record {
  there = grind (arith, t.there, t.less, t.greater, t.cross);
  less = grind (arith, t.there, t.less, t.greater, t.cross);
  greater = grind (arith, t.there, t.less, t.greater, t.cross);
  cross = grind (arith, t.there, t.less, t.greater, t.cross);
}

fixed_forms : (x : Option Op) (from : Kind) → (is_at_least Equal x ≡ is_at_least Equal (normal_entry x from Fixed)) × (false ≡ is_at_least Less (normal_entry x from Fixed))
    × ((is_at_least Equal x && is_growing from) ≡ is_at_least Greater (normal_entry x from Fixed)) × (false ≡ is_at_least Cross (normal_entry x from Fixed))
fixed_forms None from = (refl, refl, refl, refl)
fixed_forms (Some a) Fixed = (grind (arith), refl, grind (arith), refl)
fixed_forms (Some a) Growing = (grind (arith), refl, grind (arith), refl)

growing_forms : (x : Option Op) (from : Kind) → (is_at_least Equal x ≡ is_at_least Equal (normal_entry x from Growing))
    × (((is_at_least Less x && is_growing from) || (is_at_least Equal x && not (is_growing from))) ≡ is_at_least Less (normal_entry x from Growing))
    × ((is_at_least Greater x && is_growing from) ≡ is_at_least Greater (normal_entry x from Growing)) × ((is_at_least Cross x && is_growing from) ≡ is_at_least Cross (normal_entry x from Growing))
growing_forms None from = (refl, refl, refl, refl)
growing_forms (Some a) Fixed = (grind (arith), grind (arith), grind (arith), grind (arith))
growing_forms (Some a) Growing = (grind (arith), grind (arith), grind (arith), grind (arith))

Tells-normal : (c : Column) (growing : ℕ) (to : Kind) (i : ℕ) (x : Option Op) (from : Kind) → growing < 2 ^ 64 → i < 64 → has growing i ≡ is_growing from → Tells c i x
    → Tells (normal_column c growing to) i (normal_entry x from to)
Tells-normal c growing Fixed i x from fits lt grows t =
    let (there, less, greater, cross) = fixed_forms x from in
    record {
      there = t.there ∙ there;
      less = has_none i ∙ less;
      greater = both_bit c.there growing i ∙ ((λ k. t.there k && grows k) ∙ greater);
      cross = has_none i ∙ cross;
    }
Tells-normal c growing Growing i x from fits lt grows t =
    let (there, less, greater, cross) = growing_forms x from in
    let fixed : has (bit_not w64 growing) i ≡ not (is_growing from) = has_not growing i fits lt ∙ ap not grows in
    record {
      there = t.there ∙ there;
      less =
          either_bit (bit_and c.less growing) (bit_and c.there (bit_not w64 growing)) i
          ∙ ((λ k. both_bit c.less growing i k || both_bit c.there (bit_not w64 growing) i k) ∙ ((λ k. (t.less k && grows k) || (t.there k && fixed k)) ∙ less));
      greater = both_bit c.greater growing i ∙ ((λ k. t.greater k && grows k) ∙ greater);
      cross = both_bit c.cross growing i ∙ ((λ k. t.cross k && grows k) ∙ cross);
    }

composed_is : (x : Option Op) (op : Op) (from to : Kind) → normal_entry (followed x op) from to ≡ composed x (Some op) from to
composed_is None op from to = refl
composed_is (Some a) op from to = refl

-- a column that is followed by an operator, in its normal form
pub Tells-path : (c : Column) (op : Op) (growing : ℕ) (from to : Kind) (i : ℕ) (x : Option Op) → growing < 2 ^ 64 → i < 64 → has growing i ≡ is_growing from → Tells c i x
    → Tells (normal_column (followed_column c op) growing to) i (composed x (Some op) from to)
Tells-path c op growing from to i x fits lt grows t =
    subst (Tells (normal_column (followed_column c op) growing to) i) (composed_is x op from to)
    (Tells-normal (followed_column c op) growing to i (followed x op) from fits lt grows (Tells-followed c op i x t))

-- the entry that a column has, of what it tells
abbrev told : Column → ℕ → Option Op
told c i = if has c.there i then Some (told_op (has c.less i) (has c.greater i) (has c.cross i)) else None

told-Tells : (c : Column) (i : ℕ) (x : Option Op) → Tells c i x → told c i ≡ x
told-Tells c i None t = rw (t.there) refl
told-Tells c i (Some Equal) t = rw (t.there, t.less, t.greater, t.cross) refl
told-Tells c i (Some Less) t = rw (t.there, t.less, t.greater, t.cross) refl
told-Tells c i (Some Greater) t = rw (t.there, t.less, t.greater, t.cross) refl
told-Tells c i (Some Diamond) t = rw (t.there, t.less, t.greater, t.cross) refl
told-Tells c i (Some Cross) t = rw (t.there, t.cross) refl

-- a column has one entry from a type
pub Tells-one : (c : Column) (i : ℕ) (x y : Option Op) → Tells c i x → Tells c i y → x ≡ y
Tells-one c i x y p q = sym (told-Tells c i x p) ∙ told-Tells c i y q

-- an entry that is there
pub told_there : (c : Column) (i : ℕ) (x : Option Op) → Tells c i x → has c.there i ≡ true → x ≡ Some (told_op (has c.less i) (has c.greater i) (has c.cross i))
told_there c i x t there = sym (told-Tells c i x t) ∙ ap (λ b. if b then Some (told_op (has c.less i) (has c.greater i) (has c.cross i)) else None) there

-- and one that isn't
pub not_there : (x : Option Op) → false ≡ is_at_least Equal x → x ≡ None
not_there None none = refl
not_there (Some a) none = absurd (grind (arith))

-- ---- lists of columns

pub FirstColumns-none : (n : ℕ) (cs : List Column) (f : ℕ → ℕ → Option Op) → length cs ≡ n → FirstColumns n 0 cs f
FirstColumns-none n cs f whole = record { whole = whole; each = λ i j p q. absurd (omega (arith, q)) }

pub FirstColumns-more : (n m : ℕ) (cs : List Column) (f : ℕ → ℕ → Option Op) (c : Column) → m < n → ((i : ℕ) → i < n → Tells c i (f i m)) → FirstColumns n m cs f → FirstColumns n (m + 1) (slice_set cs m c) f
FirstColumns-more n m cs f c lt tells first = record {
  whole = length-set cs m c ∙ first.whole;
  each = λ i j p q. elim (eqb_tells j m) [
    | inl hit ↦ subst (λ k. Tells (column_at (slice_set cs m c) k) i (f i k)) (sym hit.1) (subst (λ d. Tells d i (f i m)) (sym (get_or-set_same cs m c no_column (rw first.whole lt))) (tells i p))
    | inr miss ↦ subst (λ d. Tells d i (f i j)) (sym (get_or-set_other cs m j c no_column miss.1)) (first.each i j p (let e = miss.1 in omega (arith, q, e)))
  ];
}

-- columns that also have the entries g, which are the same
pub AreColumns-same : (n : ℕ) (cs : List Column) (f g : ℕ → ℕ → Option Op) → ((i j : ℕ) → i < n → j < n → f i j ≡ g i j) → AreColumns n cs f → AreColumns n cs g
AreColumns-same n cs f g same are = record { whole = are.whole; each = λ i j p q. subst (Tells (column_at cs j) i) (same i j p q) (are.each i j p q) }

-- the entries of a table
pub AreColumns-table_of : (kinds : List Kind) (cs : List Column) (f : ℕ → ℕ → Option Op) → AreColumns (length kinds) cs f → AreColumns (length kinds) cs (entry (table_of kinds f))
AreColumns-table_of kinds cs f are = AreColumns-same (length kinds) cs f (entry (table_of kinds f)) (λ i j p q. sym (entry-table_of kinds f i j p q)) are

equal_parts : (a b : Column) → ((a.there == b.there) && ((a.less == b.less) && ((a.greater == b.greater) && (a.cross == b.cross)))) ≡ true → a ≡ b
equal_parts a b same =
    let (there, rest) = and_parts (a.there == b.there) ((a.less == b.less) && ((a.greater == b.greater) && (a.cross == b.cross))) same in
    let (less, more) = and_parts (a.less == b.less) ((a.greater == b.greater) && (a.cross == b.cross)) rest in
    let (greater, cross) = and_parts (a.greater == b.greater) (a.cross == b.cross) more in
    λ i. record {
      there = eqb-true a.there b.there there i;
      less = eqb-true a.less b.less less i;
      greater = eqb-true a.greater b.greater greater i;
      cross = eqb-true a.cross b.cross cross i;
    }

not_differ : (b : Bool) → false ≡ not b → b ≡ true
not_differ true same = refl
not_differ false same = absurd (cc)

-- columns of which no set differs
pub same_column : (a b : Column) → false ≡ not ((a.there == b.there) && ((a.less == b.less) && ((a.greater == b.greater) && (a.cross == b.cross)))) → a ≡ b
same_column a b same = equal_parts a b (not_differ ((a.there == b.there) && ((a.less == b.less) && ((a.greater == b.greater) && (a.cross == b.cross)))) same)

-- ---- the columns to the types of a set

pub shown-long : (filled : ℕ) (cs : List Column) → length (shown filled cs) ≡ length cs
shown-long filled cs = length-map (range_with_len 0 (length cs)) (λ j. if has filled j then column_at cs j else no_column) ∙ length-range_with_len 0 (length cs)

pub shown-at : (filled : ℕ) (cs : List Column) (j : ℕ) → j < length cs → column_at (shown filled cs) j ≡ (if has filled j then column_at cs j else no_column)
shown-at filled cs j lt = get_or-map-range_with_len (λ k. if has filled k then column_at cs k else no_column) 0 (length cs) j j no_column lt (omega arith)

-- as many are shown as there are
pub shown-within : (filled : ℕ) (cs view : List Column) (t : ℕ) → shown filled cs ≡ view → t < length view → t < length cs
shown-within filled cs view t is lt = subst (λ n. t < n) (sym (ap length is) ∙ shown-long filled cs) lt

-- what is shown is what is stored, or nothing
pub shown-is : (filled : ℕ) (cs view : List Column) (t : ℕ) (c : Column) (b : Bool) → shown filled cs ≡ view → t < length cs → has filled t ≡ b → (if b then column_at cs t else no_column) ≡ c → c ≡ column_at view t
shown-is filled cs view t c b is lt bit here = sym here ∙ (ap (λ x. if x then column_at cs t else no_column) (sym bit) ∙ (sym (shown-at filled cs t lt) ∙ ap (λ xs. column_at xs t) is))

-- with no type in the set there is no entry
pub AreColumns-shown : (cs : List Column) → AreColumns (length cs) (shown 0 cs) no_entry
AreColumns-shown cs = record {
  whole = shown-long 0 cs;
  each = λ i j p q. subst (λ d. Tells d i None) (sym (shown-at 0 cs j q ∙ ap (λ b. if b then column_at cs j else no_column) (has_none j))) (Tells-none i);
}

-- a further type in the set, with its column
pub shown-put : (filled : ℕ) (cs : List Column) (t : ℕ) (c : Column) → t < length cs → length cs ≤ 64 → shown (bit_or filled (1 * 2 ^ t % 2 ^ 64)) (slice_set cs t c) ≡ slice_set (shown filled cs) t c
shown-put filled cs t c lt few =
    let set = bit_or filled (1 * 2 ^ t % 2 ^ 64) in
    let more = slice_set cs t c in
    let long = length-set cs t c in
    let bit : t < 64 = omega (arith, lt, few) in
    ext_get_or no_column (shown set more) (slice_set (shown filled cs) t c) (shown-long set more ∙ (long ∙ sym (length-set (shown filled cs) t c ∙ shown-long filled cs))) (λ j in_shown.
    let within : j < length cs = rw (shown-long set more ∙ long) at in_shown in
    let here = shown-at set more j (rw long within) in
    elim (eqb_tells j t) [
      | inl hit ↦
          subst (λ k. column_at (shown set more) k ≡ column_at (slice_set (shown filled cs) t c) k) (sym hit.1)
          (shown-at set more t (rw long lt) ∙ (ap (λ b. if b then column_at more t else no_column) (has_same filled t bit) ∙ (get_or-set_same cs t c no_column lt
          ∙ sym (get_or-set_same (shown filled cs) t c no_column (rw (shown-long filled cs) lt)))))
      | inr miss ↦
          here ∙ ((λ k. if has_other filled t j bit miss.1 k then get_or-set_other cs t j c no_column miss.1 k else no_column)
          ∙ (sym (shown-at filled cs j within) ∙ sym (get_or-set_other (shown filled cs) t j c no_column miss.1)))
    ])

-- ---- joins

pub AreJoined-none : (old others : List Column) → AreJoined old others old 0
AreJoined-none old others = record { whole = refl; joined = λ j q. absurd (omega (arith, q)); rest = λ j q. refl }

pub AreJoined-more : (old others new : List Column) (m : ℕ) → m < length old → AreJoined old others new m
    → AreJoined old others (slice_set new m (joined_column (column_at new m) (column_at others m))) (m + 1)
AreJoined-more old others new m lt are =
    let c = joined_column (column_at new m) (column_at others m) in
    record {
      whole = length-set new m c ∙ are.whole;
      joined = λ j q. elim (eqb_tells j m) [
        | inl hit ↦
            subst (λ k. column_at (slice_set new m c) k ≡ joined_column (column_at old k) (column_at others k)) (sym hit.1)
            (get_or-set_same new m c no_column (rw are.whole lt) ∙ ap (λ d. joined_column d (column_at others m)) (are.rest m (omega arith)))
        | inr miss ↦ get_or-set_other new m j c no_column miss.1 ∙ are.joined j (let e = miss.1 in omega (arith, q, e))
      ];
      rest = λ j q. get_or-set_other new m j c no_column (λ e. omega (arith, q, e)) ∙ are.rest j (omega (arith, q));
    }

pub AreColumns-joined : (n : ℕ) (old others new : List Column) (f g : ℕ → ℕ → Option Op) → AreColumns n old f → AreColumns n others g → AreJoined old others new n
    → AreColumns n new (λ i j. joined (f i j) (g i j))
AreColumns-joined n old others new f g p q are = record {
  whole = are.whole ∙ p.whole;
  each = λ i j r s. subst (λ c. Tells c i (joined (f i j) (g i j))) (sym (are.joined j s)) (Tells-joined (column_at old j) (column_at others j) i (f i j) (g i j) (p.each i j r s) (q.each i j r s));
}

-- ---- tables

-- a matrix with the entries f is their table
pub same_table : (kinds : List Kind) (f : ℕ → ℕ → Option Op) (t : Table) → length t.cells ≡ length kinds * length kinds → t.kinds ≡ kinds → EachPair kinds (λ i j. entry t i j ≡ f i j) → t ≡ table_of kinds f
same_table kinds f t whole same each =
    let n = length kinds in
    let cells : t.cells ≡ (table_of kinds f).cells =
    ext_get_or None t.cells (table_of kinds f).cells (whole ∙ sym (whole-table_of kinds f)) (λ p lt.
    let within : p < n * n = rw whole at lt in
    let i = p / n in
    let j = p % n in
    let row = row-lt p n within in
    let column = column-lt p n within in
    let here : i * n + j ≡ p = div-add-mod' p n in
    let old : slice_index_or t.cells (i * n + j) None ≡ f i j = subst (λ ks. slice_index_or t.cells (i * length ks + j) None ≡ f i j) same (each i j row column) in
    subst (λ q. slice_index_or t.cells q None ≡ slice_index_or (table_of kinds f).cells q None) here (old ∙ sym (entry-table_of kinds f i j row column))) in
    λ k. laid_out (same k) (cells k)

-- ---- the growing types

-- a set has just the growing ones of the first n types
pub record GrowingBelow (kinds : List Kind) (set n : ℕ) : Type 0 where
  pub below : (i : ℕ) → i < n → has set i ≡ is_growing (kind_at kinds i)
  pub above : (i : ℕ) → n ≤ i → has set i ≡ false

pub GrowingBelow-none : (kinds : List Kind) → GrowingBelow kinds 0 0
GrowingBelow-none kinds = record { below = λ i lt. absurd (omega (arith, lt)); above = λ i le. has_none i }

pub GrowingBelow-with : (kinds : List Kind) (set n : ℕ) → n < 64 → is_growing (kind_at kinds n) ≡ true → GrowingBelow kinds set n → GrowingBelow kinds (bit_or set (1 * 2 ^ n % 2 ^ 64)) (n + 1)
GrowingBelow-with kinds set n lt is first = record {
  below = λ i p. elim (eqb_tells i n) [
    | inl hit ↦ subst (λ k. has (bit_or set (1 * 2 ^ n % 2 ^ 64)) k ≡ is_growing (kind_at kinds k)) (sym hit.1) (has_same set n lt ∙ sym is)
    | inr miss ↦ has_other set n i lt miss.1 ∙ first.below i (let e = miss.1 in omega (arith, p, e))
  ];
  above = λ i p. has_other set n i lt (λ e. omega (arith, p, e)) ∙ first.above i (omega (arith, p));
}

pub GrowingBelow-without : (kinds : List Kind) (set n : ℕ) → is_growing (kind_at kinds n) ≡ false → GrowingBelow kinds set n → GrowingBelow kinds set (n + 1)
GrowingBelow-without kinds set n other first = record {
  below = λ i p. elim (eqb_tells i n) [
    | inl hit ↦ subst (λ k. has set k ≡ is_growing (kind_at kinds k)) (sym hit.1) (first.above n (omega arith) ∙ sym other)
    | inr miss ↦ first.below i (let e = miss.1 in omega (arith, p, e))
  ];
  above = λ i p. first.above i (omega (arith, p));
}

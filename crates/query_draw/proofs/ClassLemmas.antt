-- The greatest class of columns: of their entries one after another, and of one column after another.
use Rattle.std.proofs.Common.{◌≡◌, ◌≢◌, ℕ, ◌+◌, ◌<◌, ◌≤◌, Bool, true, false, if◌then◌else◌, Option, Some, None, IfSome, List, length, inl, inr, refl, sym, ap, subst, ◌∙◌, arith}
use Rattle.std.proofs.lemmas.Bool.{cases_Bool}
use Rattle.std.proofs.lemmas.Bool.Decides.{eqb_tells}
use Rattle.sel_algebra.specs.declared.vocabulary.Op.{Op}
use Rattle.sel_algebra.specs.declared.vocabulary.Op.TheVariants.{Equal}
use Rattle.sel_algebra.specs.declared.vocabulary.Kind.{Kind}
use Rattle.sel_algebra.specs.declared.vocabulary.Class.{Class}
use Rattle.sel_algebra.specs.Operators.{ClassAtMost, class_at_most, growth_class}
use Rattle.sel_algebra.specs.Entries.{entry_class, ClassEntryAtMost, greater_class}
use Rattle.sel_algebra.specs.Table.{Table, kind_at, entry}
use Rattle.sel_algebra.specs.Greatest.{class_at, HasClass}
use Rattle.sel_algebra.proofs.GreatestLemmas.{ClassEntryAtMost-trans, greatest_class_unique}
use Rattle.query_draw.specs.declared.columns.Column.{Column}
use Rattle.query_draw.specs.Columns.{has, is_at_least, Tells, column_at, AreColumns, told_op}
use Rattle.query_draw.specs.TypeSets.{HasNone}
use Rattle.query_draw.specs.Classes.{IsGreatestOf, IsGreatestIn, IsGreatestOver}
use Rattle.query_draw.proofs.ColumnLemmas.{not_there, told_there}

-- ---- the greater of two classes

same_class : (a : Class) → ClassAtMost a a
same_class a = grind (arith)

greater_class-left : (a b : Option Class) → ClassEntryAtMost a (greater_class a b)
greater_class-left None b = tt
greater_class-left (Some a) None = same_class a
greater_class-left (Some a) (Some b) = left a b
  where
    left : (a b : Class) → ClassAtMost a (if class_at_most a b then b else a)
    left a b = grind (arith)

greater_class-right : (a b : Option Class) → ClassEntryAtMost b (greater_class a b)
greater_class-right None None = tt
greater_class-right None (Some b) = same_class b
greater_class-right (Some a) None = tt
greater_class-right (Some a) (Some b) = right a b
  where
    right : (a b : Class) → ClassAtMost b (if class_at_most a b then b else a)
    right a b = grind (arith)

-- what holds of both holds of the greater
greater_class-attained : (P : Class → Type 0) (a b : Option Class) → IfSome a P → IfSome b P → IfSome (greater_class a b) P
greater_class-attained P None b p q = q
greater_class-attained P (Some a) None p q = p
greater_class-attained P (Some a) (Some b) p q = elim (cases_Bool (class_at_most a b)) [ inl hit ↦ rw hit q | inr miss ↦ rw miss p ]

if_some : (P Q : Class → Type 0) (a : Option Class) → ((x : Class) → P x → Q x) → IfSome a P → IfSome a Q
if_some P Q None f p = tt
if_some P Q (Some a) f p = f a p

-- ---- the entries of a column

-- the greatest class, with one where there was none
IsGreatestOf-with : (n : ℕ) (f g : ℕ → Option Class) (m : ℕ) (a b : Option Class) → m < n → f m ≡ None → ((l : ℕ) → l < n → l ≢ m → g l ≡ f l) → g m ≡ b → IsGreatestOf n f a → IsGreatestOf n g (greater_class a b)
IsGreatestOf-with n f g m a b lt none same one is =
    let Has : Class → Type 0 = λ class. (i : ℕ) × (i < n) × (g i ≡ Some class) in
    let before : IfSome a Has = if_some (λ class. (i : ℕ) × (i < n) × (f i ≡ Some class)) Has a (λ class (i, within, here).
    let other : i ≢ m = λ e. let clash = sym here ∙ (ap f e ∙ none) in cc in
    (i, within, same i within other ∙ here)) is.attained in
    record {
      attained = greater_class-attained Has a b before (has_class b one);
      at_least = λ i p. elim (eqb_tells i m) [
        | inl hit ↦ subst (λ x. ClassEntryAtMost x (greater_class a b)) (sym (ap g hit.1 ∙ one)) (greater_class-right a b)
        | inr miss ↦
            subst (λ x. ClassEntryAtMost x (greater_class a b)) (sym (same i p miss.1))
            (ClassEntryAtMost-trans (f i) a (greater_class a b) (is.at_least i p) (greater_class-left a b))
      ];
    }
  where
    has_class : (b : Option Class) → g m ≡ b → IfSome b (λ class. (i : ℕ) × (i < n) × (g i ≡ Some class))
    has_class None is = tt
    has_class (Some class) is = (m, lt, is)

IsGreatestOf-same : (n : ℕ) (f g : ℕ → Option Class) (a : Option Class) → ((l : ℕ) → l < n → g l ≡ f l) → IsGreatestOf n f a → IsGreatestOf n g a
IsGreatestOf-same n f g a same is = record {
  attained =
      if_some (λ class. (i : ℕ) × (i < n) × (f i ≡ Some class)) (λ class. (i : ℕ) × (i < n) × (g i ≡ Some class)) a
      (λ class (i, within, here). (i, within, same i within ∙ here)) is.attained;
  at_least = λ i p. subst (λ x. ClassEntryAtMost x a) (sym (same i p)) (is.at_least i p);
}

-- the class of the entry from a type that isn't in a set
abbrev class_but : ℕ → List Kind → (ℕ → Option Op) → Kind → ℕ → Option Class
class_but rest kinds e to i = if has rest i then None else entry_class (e i) (kind_at kinds i) to

-- the greatest class of the entries from all types that aren't in a set
abbrev pub IsGreatestBut : ℕ → List Kind → Column → Kind → Option Class → Type 0
IsGreatestBut rest kinds c to greatest =
    (e : ℕ → Option Op) → ((i : ℕ) → i < length kinds → Tells c i (e i)) → IsGreatestOf (length kinds) (class_but rest kinds e to) greatest

no_class : (x : Option Op) (from to : Kind) (b : Bool) → b ≡ is_at_least Equal x → (if b then None else entry_class x from to) ≡ None
no_class x from to true there = refl
no_class x from to false there = ap (λ y. entry_class y from to) (not_there x there)

-- from no type that has an entry
pub IsGreatestBut-none : (kinds : List Kind) (c : Column) (to : Kind) → IsGreatestBut c.there kinds c to None
IsGreatestBut-none kinds c to e tells = record {
  attained = tt;
  at_least = λ i p. subst (λ x. ClassEntryAtMost x None) (sym (no_class (e i) (kind_at kinds i) to (has c.there i) (tells i p).there)) tt;
}

-- from a further type
pub IsGreatestBut-more : (rest next : ℕ) (kinds : List Kind) (c : Column) (to : Kind) (greatest : Option Class) (m : ℕ) → length kinds ≤ 64 → m < length kinds
    → has rest m ≡ true → has c.there m ≡ true → has next m ≡ false → ((k : ℕ) → k < 64 → k ≢ m → has next k ≡ has rest k) → IsGreatestBut rest kinds c to greatest
    → IsGreatestBut next kinds c to (greater_class greatest (Some (growth_class (told_op (has c.less m) (has c.greater m) (has c.cross m)) (kind_at kinds m) to)))
IsGreatestBut-more rest next kinds c to greatest m few lt in_rest there gone others so_far e tells =
    let n = length kinds in
    let op = told_op (has c.less m) (has c.greater m) (has c.cross m) in
    let class = Some (growth_class op (kind_at kinds m) to) in
    let one : class_but next kinds e to m ≡ class =
    ap (λ b. if b then None else entry_class (e m) (kind_at kinds m) to) gone ∙ ap (λ x. entry_class x (kind_at kinds m) to) (told_there c m (e m) (tells m lt) there) in
    IsGreatestOf-with n (class_but rest kinds e to) (class_but next kinds e to) m greatest class lt (ap (λ b. if b then None else entry_class (e m) (kind_at kinds m) to) in_rest)
    (λ l p differ. ap (λ b. if b then None else entry_class (e l) (kind_at kinds l) to) (others l (omega (arith, p, few)) differ)) one (so_far e tells)

-- from all types
pub IsGreatestBut-all : (rest : ℕ) (kinds : List Kind) (c : Column) (to : Kind) (greatest : Option Class) → HasNone rest (length kinds) → IsGreatestBut rest kinds c to greatest → IsGreatestIn kinds c to greatest
IsGreatestBut-all rest kinds c to greatest none so_far e tells =
    IsGreatestOf-same (length kinds) (class_but rest kinds e to) (λ i. entry_class (e i) (kind_at kinds i) to) greatest
    (λ l p. sym (ap (λ b. if b then None else entry_class (e l) (kind_at kinds l) to) (none l p))) (so_far e tells)

-- ---- columns

-- the greatest class of the entries to the first m types
pub record IsGreatestTo (t : Table) (greatest : Option Class) (m : ℕ) : Type 0 where
  pub attained : IfSome greatest (HasClass t)
  pub at_least : (i j : ℕ) → i < length t.kinds → j < m → ClassEntryAtMost (class_at t i j) greatest

-- so it is for each matrix with these columns
abbrev pub AreGreatestTo : List Kind → List Column → Option Class → ℕ → Type 0
AreGreatestTo kinds cs greatest m = (t : Table) → t.kinds ≡ kinds → AreColumns (length kinds) cs (entry t) → IsGreatestTo t greatest m

pub AreGreatestTo-none : (kinds : List Kind) (cs : List Column) → AreGreatestTo kinds cs None 0
AreGreatestTo-none kinds cs t same are = record { attained = tt; at_least = λ i j p q. absurd (omega (arith, q)) }

pub AreGreatestTo-more : (kinds : List Kind) (cs : List Column) (greatest class : Option Class) (m : ℕ) → m < length kinds → IsGreatestIn kinds (column_at cs m) (kind_at kinds m) class
    → AreGreatestTo kinds cs greatest m → AreGreatestTo kinds cs (greater_class greatest class) (m + 1)
AreGreatestTo-more kinds cs greatest class m lt greatest_in so_far t same are =
    let here : IsGreatestOf (length t.kinds) (λ i. class_at t i m) class =
    subst (λ ks. IsGreatestOf (length ks) (λ i. entry_class (entry t i m) (kind_at ks i) (kind_at ks m)) class) (sym same) (greatest_in (λ i. entry t i m) (λ i p. are.each i m p lt)) in
    let before = so_far t same are in
    let whole = greater_class greatest class in
    let within : m < length t.kinds = rw same lt in
    record {
      attained =
          greater_class-attained (HasClass t) greatest class before.attained
          (if_some (λ x. (i : ℕ) × (i < length t.kinds) × (class_at t i m ≡ Some x)) (HasClass t) class (λ x (i, p, is). (i, (m, (p, (within, is))))) here.attained);
      at_least = λ i j p q. elim (eqb_tells j m) [
        | inl hit ↦
            subst (λ k. ClassEntryAtMost (class_at t i k) whole) (sym hit.1)
            (ClassEntryAtMost-trans (class_at t i m) class whole (here.at_least i p) (greater_class-right greatest class))
        | inr miss ↦
            ClassEntryAtMost-trans (class_at t i j) greatest whole (before.at_least i j p (let e = miss.1 in omega (arith, q, e))) (greater_class-left greatest class)
      ];
    }

pub AreGreatestTo-all : (kinds : List Kind) (cs : List Column) (greatest : Option Class) → AreGreatestTo kinds cs greatest (length kinds) → IsGreatestOver kinds cs greatest
AreGreatestTo-all kinds cs greatest so_far t same are =
    let all = so_far t same are in
    (greatest_class_unique t greatest).0 (record { attained = all.attained; at_least = λ i j p q. all.at_least i j p (rw same at q) })

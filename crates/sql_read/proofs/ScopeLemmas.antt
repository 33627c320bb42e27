-- What is found by name is what the conditions speak of.
use Rattle.std.proofs.Common.{◌≡◌, ℕ, ◌-◌, ◌<◌, ◌≤◌, Bool, true, false, not, cond, ◌&&◌, ◌||◌, ◌==◌, if◌then◌else◌, Option, Some, None, is_some, is_none, List, [], ◌∷◌, map, drop, length, zero, suc, slice_get, refl, sym, ap, ◌∙◌, true≢false, arith}
use Rattle.std.specs.Prelude.{bytes_eq}
use Rattle.std.specs.Borrow.{Bor}
use Rattle.std.specs.List.{list_all}
use Rattle.std.proofs.lemmas.Bool.Decides.{nat_tests}
use Rattle.std.proofs.lemmas.Option.{get_or_from_slice_get, slice_get_within}
use Rattle.std.proofs.Math.Seq.{drop-cons}
use Rattle.sql_read.specs.declared.query.Col.{Col}
use Rattle.sql_read.specs.declared.query.Right.{Right}
use Rattle.sql_read.specs.declared.query.Right.TheVariants.{Column, Number}
use Rattle.sql_read.specs.declared.query.Equation.{Equation}
use Rattle.sql_read.specs.declared.query.SqlFrom.{SqlFrom}
use Rattle.sql_read.specs.declared.scope.Scope.{Scope}
use Rattle.sql_read.specs.View.{name_view, source_view, col_view, right_view, equation_view}
use Rattle.sql_read.specs.Conditions.{Header, is_among, is_among_some, all_differ, columns_of, columns_under, belongs, right_belongs, equation_belongs, is_there, alias_of}
use Rattle.sql_read.specs.Scope.{number_in, has_in, number_of, has_column, Knows, header, HasAdded, number_under, is_known, alias_in, froms_hold, has_in_some, col_found, right_found, equation_found}

and_false : (a b : Bool) → b ≡ false → (a && b) ≡ false
and_false a b h = grind arith

-- a list from a place on begins with what stands there
pub drop_step : {A : Type 0} → (xs : List A) (k : ℕ) (x : A) → 0 < k → slice_get xs (k - 1) ≡ Some x → drop (k - 1) xs ≡ x ∷ drop k xs
drop_step xs k x some at =
    let within = slice_get_within xs (k - 1) x at in
    let same : suc (k - 1) ≡ k = omega (arith, some) in
    drop-cons xs (k - 1) x within
    ∙ (λ i. get_or_from_slice_get xs (k - 1) x x at i ∷ drop (same i) xs)

-- names that don't differ from a place on don't differ
pub differ_drop : {A : Type 0} → (name : A → List ℕ) (k : ℕ) (xs : List A) → all_differ (map name (drop k xs)) ≡ false → all_differ (map name xs) ≡ false
differ_drop name zero xs h = h
differ_drop name (suc k) [] h = h
differ_drop name (suc k) (x ∷ xs) h = and_false _ _ (differ_drop name k xs h)

all_drop : {A : Type 0} → (test : A → Bool) (k : ℕ) (xs : List A) → list_all test (drop k xs) ≡ false → list_all test xs ≡ false
all_drop test zero xs h = h
all_drop test (suc k) [] h = h
all_drop test (suc k) (x ∷ xs) h = and_false _ _ (all_drop test k xs h)

nat_same : (n : ℕ) → (n == n) ≡ true
nat_same n = grind (arith, nat_tests)

-- the columns of a table from a place on were added
pub record Columns (old now : Scope) (number : ℕ) (names : List (Bor (List ℕ))) (k : ℕ) : Type 0 where
  pub small : k ≤ length names
  pub differ : all_differ (map name_view (drop k names)) ≡ true
  pub added : HasAdded old now number (drop k names)
  pub tables : now.tables ≡ old.tables

pub columns_start : (old : Scope) (number : ℕ) (names : List (Bor (List ℕ))) (k : ℕ) → k ≡ length names → drop k names ≡ [] → Columns old old number names k
columns_start old number names k is none = record {
  small = omega (arith, is);
  differ = ap (λ (xs : List (Bor (List ℕ))). all_differ (map name_view xs)) none;
  added = λ n name. sym (ap (λ (xs : List (Bor (List ℕ))). ((number == n) && is_among name.now (map name_view xs)) || has_in old n name) none ∙ no_more (number == n) (has_in old n name));
  tables = refl;
}
  where
    no_more : (a b : Bool) → ((a && false) || b) ≡ b
    no_more a b = grind arith

-- a column that is there already is among those behind it
there_already : (a b c : Bool) → a ≡ true → c ≡ false → ((a && b) || c) ≡ b
there_already a b c g h = grind arith

pub column_among : (old now : Scope) (number : ℕ) (names : List (Bor (List ℕ))) (k : ℕ) (name : Bor (List ℕ)) → Columns old now number names k
    → has_in old number name ≡ false → has_in now number name ≡ is_among name.now (map name_view (drop k names))
column_among old now number names k name s none = s.added number name ∙ there_already _ _ _ (nat_same number) none

pub columns_refused : (old now : Scope) (number : ℕ) (names : List (Bor (List ℕ))) (k : ℕ) (name : Bor (List ℕ)) → Columns old now number names k
    → has_in old number name ≡ false → 0 < k → slice_get names (k - 1) ≡ Some name → has_in now number name ≡ true → all_differ (map name_view names) ≡ false
columns_refused old now number names k name s none some at there =
    differ_drop name_view (k - 1) names
    (ap (λ (xs : List (Bor (List ℕ))). all_differ (map name_view xs)) (drop_step names k name some at)
    ∙ ap (λ b. not b && all_differ (map name_view (drop k names))) (sym (column_among old now number names k name s none) ∙ there))

new_differs : (a b : Bool) → a ≡ false → b ≡ true → (not a && b) ≡ true
new_differs a b g h = grind arith

one_more : (n b among old : Bool) → cond (n && b) true ((n && among) || old) ≡ ((n && (b || among)) || old)
one_more n b among old = grind arith

pub columns_more : (old now next : Scope) (number : ℕ) (names : List (Bor (List ℕ))) (k : ℕ) (name : Bor (List ℕ)) → Columns old now number names k
    → has_in old number name ≡ false → 0 < k → slice_get names (k - 1) ≡ Some name → has_in now number name ≡ false
    → ((n : ℕ) (q : Bor (List ℕ)) → has_in next n q ≡ cond ((number == n) && bytes_eq name.now q.now) true (has_in now n q))
    → next.tables ≡ now.tables → Columns old next number names (k - 1)
columns_more old now next number names k name s none some at new update same =
    let step = drop_step names k name some at in
    record {
      small = omega (arith, s.small);
      differ = ap (λ (xs : List (Bor (List ℕ))). all_differ (map name_view xs)) step
          ∙ new_differs _ _ (sym (column_among old now number names k name s none) ∙ new) s.differ;
      added = λ n q.
          update n q ∙ ap (cond ((number == n) && bytes_eq name.now q.now) true) (s.added n q)
          ∙ one_more (number == n) (bytes_eq name.now q.now) (is_among q.now (map name_view (drop k names))) (has_in old n q)
          ∙ sym (ap (λ (xs : List (Bor (List ℕ))). ((number == n) && is_among q.now (map name_view xs)) || has_in old n q) step);
      tables = same ∙ s.tables;
    }

-- numbers of tables are below their count
number_below : (hs : List Header) (name : List ℕ) (n : ℕ) → number_of hs name ≡ Some n → n < length hs
number_below [] name n e = absurd (none_some n e)
  where
    none_some : (m : ℕ) → ◌≡◌ {A = Option ℕ} None (Some m) → ⊥
    none_some m f = cc
number_below (h ∷ hs) name n e = by (bytes_eq h.name name) refl (number_below hs name n)
  where
    some_same : (x y : ℕ) → ◌≡◌ {A = Option ℕ} (Some x) (Some y) → x ≡ y
    some_same x y f = cc

    by : (b : Bool) → bytes_eq h.name name ≡ b → (number_of hs name ≡ Some n → n < length hs) → n < length (h ∷ hs)
    by true t more = let same = some_same (length hs) n (sym (ap (λ (c : Bool). if c then Some (length hs) else number_of hs name) t) ∙ e) in omega (arith, same)
    by false t more = let below = more (sym (ap (λ (c : Bool). if c then Some (length hs) else number_of hs name) t) ∙ e) in omega (arith, below)

pub column_below : (hs : List Header) (n : ℕ) (name : List ℕ) → length hs ≤ n → has_column hs n name ≡ false
column_below [] n name h = refl
column_below (x ∷ hs) n name h =
    let differs : (length hs == n) ≡ false = grind (arith, nat_tests) in
    rw differs (column_below hs n name (omega (arith, h)))

pub number_there : (hs : List Header) (name : List ℕ) → is_some (number_of hs name) ≡ is_some (columns_of hs name)
number_there [] name = refl
number_there (h ∷ hs) name = by (bytes_eq h.name name) refl (number_there hs name)
  where
    by : (b : Bool) → bytes_eq h.name name ≡ b → is_some (number_of hs name) ≡ is_some (columns_of hs name)
        → is_some (number_of (h ∷ hs) name) ≡ is_some (columns_of (h ∷ hs) name)
    by true t more = rw t refl
    by false t more = rw t more

-- a column of the table with a name, by its number
abbrev has_some : List Header → Option ℕ → List ℕ → Bool
has_some hs None name = false
has_some hs (Some n) name = has_column hs n name

has_some_more : (h : Header) (hs : List Header) (o : Option ℕ) (name : List ℕ) → ((n : ℕ) → o ≡ Some n → n < length hs) → has_some (h ∷ hs) o name ≡ has_some hs o name
has_some_more h hs None name below = refl
has_some_more h hs (Some n) name below =
    let small = below n refl in
    let differs : (length hs == n) ≡ false = grind (arith, nat_tests) in
    rw differs refl

column_known : (hs : List Header) (table name : List ℕ) → has_some hs (number_of hs table) name ≡ is_among_some name (columns_of hs table)
column_known [] table name = refl
column_known (h ∷ hs) table name = by (bytes_eq h.name table) refl (column_known hs table name)
  where
    by : (b : Bool) → bytes_eq h.name table ≡ b → has_some hs (number_of hs table) name ≡ is_among_some name (columns_of hs table)
        → has_some (h ∷ hs) (number_of (h ∷ hs) table) name ≡ is_among_some name (columns_of (h ∷ hs) table)
    by true t more = rw t (rw (nat_same (length hs)) refl)
    by false t more = rw t (has_some_more h hs (number_of hs table) name (number_below hs table) ∙ more)

-- a select in a scope that knows the headers
module _ (scope : Scope) (headers : List Header) (knows : Knows scope headers) where
  has_known : (o : Option ℕ) (name : Bor (List ℕ)) → has_in_some scope o name ≡ has_some headers o name.now
  has_known None name = refl
  has_known (Some n) name = knows.columns n name

  under_known : (froms : List SqlFrom) (alias name : Bor (List ℕ))
      → has_in_some scope (number_under scope froms alias) name ≡ is_among_some name.now (columns_under headers (map source_view froms) alias.now)
  under_known [] alias name = refl
  under_known (s ∷ ss) alias name = by (bytes_eq s.alias.now alias.now) refl (under_known ss alias name)
    where
      by : (b : Bool) → bytes_eq s.alias.now alias.now ≡ b
          → has_in_some scope (number_under scope ss alias) name ≡ is_among_some name.now (columns_under headers (map source_view ss) alias.now)
          → has_in_some scope (number_under scope (s ∷ ss) alias) name ≡ is_among_some name.now (columns_under headers (map source_view (s ∷ ss)) alias.now)
      by true t more =
          rw t (ap (λ o. has_in_some scope o name) (knows.numbers s.table) ∙ has_known (number_of headers s.table.now) name
          ∙ column_known headers s.table.now name.now)
      by false t more = rw t more

  aliases_are : (froms : List SqlFrom) → map alias_in froms ≡ map alias_of (map source_view froms)
  aliases_are [] = refl
  aliases_are (s ∷ ss) = ap (λ (l : List (List ℕ)). s.alias.now ∷ l) (aliases_are ss)

  known_are : (froms : List SqlFrom) → list_all (is_known scope) froms ≡ list_all (is_there headers) (map source_view froms)
  known_are [] = refl
  known_are (s ∷ ss) = λ i. (ap is_some (knows.numbers s.table) ∙ number_there headers s.table.now) i && known_are ss i

  pub froms_known : (froms : List SqlFrom)
      → froms_hold scope froms ≡ (all_differ (map alias_of (map source_view froms)) && list_all (is_there headers) (map source_view froms))
  froms_known froms = λ i. all_differ (aliases_are froms i) && known_are froms i

  module _ (froms : List SqlFrom) (found : Bor (List ℕ) → Option ℕ) (under : (alias : Bor (List ℕ)) → found alias ≡ number_under scope froms alias) where
    col_known : (c : Col) → has_in_some scope (found c.alias) c.column ≡ belongs headers (map source_view froms) (col_view c)
    col_known c = ap (λ o. has_in_some scope o c.column) (under c.alias) ∙ under_known froms c.alias c.column

    pub cols_known : (cs : List Col) → list_all (col_found scope found) cs ≡ list_all (belongs headers (map source_view froms)) (map col_view cs)
    cols_known [] = refl
    cols_known (c ∷ cs) = λ i. col_known c i && cols_known cs i

    right_known : (r : Right) → right_found scope found r ≡ right_belongs headers (map source_view froms) (right_view r)
    right_known (Column c) = col_known c
    right_known (Number n) = refl

    pub equations_known : (es : List Equation) → list_all (equation_found scope found) es
        ≡ list_all (equation_belongs headers (map source_view froms)) (map equation_view es)
    equations_known [] = refl
    equations_known (e ∷ es) = λ i. (col_known e.left i && right_known e.right i) && equations_known es i

-- aliases from a place on were found
module _ (scope : Scope) where
  pub record Aliases (found : Bor (List ℕ) → Option ℕ) (froms : List SqlFrom) (k : ℕ) : Type 0 where
    pub small : k ≤ length froms
    pub differ : all_differ (map alias_in (drop k froms)) ≡ true
    pub known : list_all (is_known scope) (drop k froms) ≡ true
    pub under : (alias : Bor (List ℕ)) → found alias ≡ number_under scope (drop k froms) alias

  under_among : (froms : List SqlFrom) (alias : Bor (List ℕ)) → list_all (is_known scope) froms ≡ true
      → is_some (number_under scope froms alias) ≡ is_among alias.now (map alias_in froms)
  under_among [] alias h = refl
  under_among (s ∷ ss) alias h = by (bytes_eq s.alias.now alias.now) refl (under_among ss alias (right (is_known scope s) _ h))
    where
      right : (a b : Bool) → (a && b) ≡ true → b ≡ true
      right a b g = grind arith

      left : (a b : Bool) → (a && b) ≡ true → a ≡ true
      left a b g = grind arith

      by : (b : Bool) → bytes_eq s.alias.now alias.now ≡ b → is_some (number_under scope ss alias) ≡ is_among alias.now (map alias_in ss)
          → is_some (number_under scope (s ∷ ss) alias) ≡ is_among alias.now (map alias_in (s ∷ ss))
      by true t more = rw t (left (is_known scope s) _ h)
      by false t more = rw t more

  pub aliases_start : (found : Bor (List ℕ) → Option ℕ) (froms : List SqlFrom) (k : ℕ) → k ≡ length froms → drop k froms ≡ []
      → ((alias : Bor (List ℕ)) → found alias ≡ None) → Aliases found froms k
  aliases_start found froms k is none empty = record {
    small = omega (arith, is);
    differ = ap (λ (xs : List SqlFrom). all_differ (map alias_in xs)) none;
    known = ap (list_all (is_known scope)) none;
    under = λ alias. empty alias ∙ sym (ap (λ (xs : List SqlFrom). number_under scope xs alias) none);
  }

  pub aliases_unknown : (froms : List SqlFrom) (k : ℕ) (s : SqlFrom) → 0 < k → slice_get froms (k - 1) ≡ Some s → number_in scope s.table ≡ None
      → froms_hold scope froms ≡ false
  aliases_unknown froms k s some at none =
      and_false _ _ (all_drop (is_known scope) (k - 1) froms
      (ap (list_all (is_known scope)) (drop_step froms k s some at) ∙ ap (λ o. is_some o && list_all (is_known scope) (drop k froms)) none))

  first_false : (a b : Bool) → a ≡ false → (a && b) ≡ false
  first_false a b h = grind arith

  not_true : (a b : Bool) → a ≡ true → (not a && b) ≡ false
  not_true a b h = grind arith

  pub aliases_equal : (found : Bor (List ℕ) → Option ℕ) (froms : List SqlFrom) (k : ℕ) (s : SqlFrom) → Aliases found froms k
      → 0 < k → slice_get froms (k - 1) ≡ Some s → is_some (found s.alias) ≡ true → froms_hold scope froms ≡ false
  aliases_equal found froms k s a some at there =
      first_false _ _ (differ_drop alias_in (k - 1) froms
      (ap (λ (xs : List SqlFrom). all_differ (map alias_in xs)) (drop_step froms k s some at)
      ∙ not_true _ _ (sym (ap is_some (a.under s.alias) ∙ under_among (drop k froms) s.alias a.known) ∙ there)))

  pub aliases_more : (found next : Bor (List ℕ) → Option ℕ) (froms : List SqlFrom) (k : ℕ) (s : SqlFrom) (number : ℕ) → Aliases found froms k
      → 0 < k → slice_get froms (k - 1) ≡ Some s → number_in scope s.table ≡ Some number → is_some (found s.alias) ≡ false
      → ((q : Bor (List ℕ)) → next q ≡ cond (bytes_eq s.alias.now q.now) (Some number) (found q)) → Aliases next froms (k - 1)
  aliases_more found next froms k s number a some at known new update =
      let step = drop_step froms k s some at in
      record {
        small = omega (arith, a.small);
        differ = ap (λ (xs : List SqlFrom). all_differ (map alias_in xs)) step
            ∙ new_differs _ _ (sym (ap is_some (a.under s.alias) ∙ under_among (drop k froms) s.alias a.known) ∙ new) a.differ;
        known = ap (list_all (is_known scope)) step ∙ ap (λ o. is_some o && list_all (is_known scope) (drop k froms)) known ∙ a.known;
        under = λ q. update q ∙ (λ i. cond (bytes_eq s.alias.now q.now) (sym known i) (a.under q i))
            ∙ sym (ap (λ (xs : List SqlFrom). number_under scope xs q) step);
      }

  both_true : (a b : Bool) → a ≡ true → b ≡ true → (a && b) ≡ true
  both_true a b g h = grind arith

  pub aliases_whole : (found : Bor (List ℕ) → Option ℕ) (froms : List SqlFrom) (k : ℕ) → k ≡ 0 → Aliases found froms k
      → (froms_hold scope froms ≡ true) × ((alias : Bor (List ℕ)) → found alias ≡ number_under scope froms alias)
  aliases_whole found froms k none a = (
    both_true _ _ (ap (λ j. all_differ (map alias_in (drop j froms))) (sym none) ∙ a.differ) (ap (λ j. list_all (is_known scope) (drop j froms)) (sym none) ∙ a.known),
    λ alias. a.under alias ∙ ap (λ j. number_under scope (drop j froms) alias) none,
  )

-- a table is added
pub table_there : (scope : Scope) (headers : List Header) (name : Bor (List ℕ)) (b : Bool) → Knows scope headers → is_some (number_in scope name) ≡ true
    → false ≡ (is_none (columns_of headers name.now) && b)
table_there scope headers name b knows there =
    no_none _ b (sym (number_there headers name.now) ∙ ap is_some (sym (knows.numbers name)) ∙ there)
  where
    no_none : (o : Option (List (List ℕ))) (c : Bool) → is_some o ≡ true → false ≡ (is_none o && c)
    no_none None c h = absurd (true≢false (sym h))
    no_none (Some x) c h = refl

pub table_new : (scope : Scope) (headers : List Header) (name : Bor (List ℕ)) (b r : Bool) → Knows scope headers → is_some (number_in scope name) ≡ false
    → r ≡ b → r ≡ (is_none (columns_of headers name.now) && b)
table_new scope headers name b r knows new is =
    is ∙ a_none _ b (sym (number_there headers name.now) ∙ ap is_some (sym (knows.numbers name)) ∙ new)
  where
    a_none : (o : Option (List (List ℕ))) (c : Bool) → is_some o ≡ false → c ≡ (is_none o && c)
    a_none None c h = refl
    a_none (Some x) c h = absurd (true≢false h)

pub table_added : (old new : Scope) (number : ℕ) (name : Bor (List ℕ)) (names : List (Bor (List ℕ))) (headers : List Header) → Knows old headers
    → number ≡ length headers → ((q : Bor (List ℕ)) → number_in new q ≡ cond (bytes_eq name.now q.now) (Some number) (number_in old q))
    → HasAdded old new number names → Knows new (header name names ∷ headers)
table_added old new number name names headers knows many update added = record {
  numbers = λ q. update q ∙ (λ i. cond (bytes_eq name.now q.now) (Some (many i)) (knows.numbers q i));
  columns = λ n q. added n q ∙ by n q (number == n) refl;
}
  where
    same : (n : ℕ) → (number == n) ≡ true → number ≡ n
    same n h = grind (arith, nat_tests)

    only : (a b : Bool) → b ≡ false → ((true && a) || b) ≡ a
    only a b h = grind arith

    by : (n : ℕ) (q : Bor (List ℕ)) (b : Bool) → (number == n) ≡ b
        → (((number == n) && is_among q.now (map name_view names)) || has_in old n q) ≡ has_column (header name names ∷ headers) n q.now
    by n q true t =
        let before : has_in old n q ≡ false = knows.columns n q ∙ column_below headers n q.now (omega (arith, many, same n t)) in
        let here : (length headers == n) ≡ true = ap (λ (m : ℕ). m == n) (sym many) ∙ t in
        rw (t, here) (only _ _ before)
    by n q false t =
        let here : (length headers == n) ≡ false = ap (λ (m : ℕ). m == n) (sym many) ∙ t in
        rw (t, here) (knows.columns n q)

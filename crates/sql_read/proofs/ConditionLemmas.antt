-- The conditions of selects and tables, put together from what was checked.
use Rattle.std.proofs.Common.{◌≡◌, ℕ, ◌+◌, ◌≤◌, Bool, true, false, ◌&&◌, ◌==◌, nat_le, if◌then◌else◌, Option, Some, is_none, List, [], ◌∷◌, ◌++◌, map, drop, length, zero, suc, slice_get, ◌<◌, ◌-◌, refl, sym, ap, subst, ◌∙◌, true≢false, arith}
use Rattle.std.specs.Prelude.{bytes_eq}
use Rattle.std.specs.Borrow.{Bor}
use Rattle.std.specs.List.{list_all, list_any}
use Rattle.std.specs.Map.{lookup}
use Rattle.std.proofs.Math.Seq.{drop-cons}
use Rattle.std.proofs.Math.ListN.{drop_of_length-le}
use Rattle.std.proofs.lemmas.Option.{get_or_from_slice_get}
use Rattle.std.proofs.lemmas.Bool.Decides.{nat_tests}
use Rattle.std.proofs.lemmas.List.{length-map, map-append, length-take-le, length-drop}
use Rattle.gm_text.specs.declared.lists.Span.{Span}
use Rattle.sql_read.specs.declared.query.Select.{Select}
use Rattle.sql_read.specs.declared.query.Table.{Table as CodeTable}
use Rattle.sql_read.specs.declared.query.SqlFrom.{SqlFrom}
use Rattle.sql_read.specs.declared.scope.Scope.{Scope}
use Rattle.sql_read.specs.View.{name_view, source_view}
use Rattle.sql_read.specs.Grammar.{Query, some}
use Rattle.sql_read.specs.Conditions.{Header, header_of, columns_of, all_differ, alias_of, is_there, belongs, equation_belongs, times_taken, query_holds, takes_once, later_hold, body_holds, has_width, table_holds, tables_hold, headers_after, last_most, width_of, last_hold, holds, edge_header}
use Rattle.sql_read.specs.Kept.{Kept, cut, IsWithin, AllFit, QueryFits, TableFits, query_in, union_in, table_in, reading_in, names_in, sources_in, cols_in, equations_in}
use Rattle.sql_read.specs.declared.query.Col.{Col}
use Rattle.sql_read.specs.declared.query.Equation.{Equation}
use Rattle.sql_read.specs.Scope.{Knows, header, number_under, froms_hold, col_found, equation_found}
use Rattle.sql_read.proofs.ScopeLemmas.{drop_step, froms_known, cols_known, equations_known}
use Rattle.sql_read.specs.Checks.{queries_in, spans_width, first_width}

cut_length : {A : Type 0} → (xs : List A) (span : Span) → IsWithin xs span → length (cut xs span) ≡ span.count
cut_length xs span within = length-take-le span.count (drop span.first xs) (omega (arith, within, length-drop span.first xs))

width_known : (kept : Kept) (s : Select) (width : ℕ) → QueryFits s kept → spans_width width s ≡ has_width width (query_in s kept)
width_known kept s width fits = ap (λ n. n == width) (sym (length-map (cut kept.columns s.columns) _ ∙ cut_length kept.columns s.columns fits.columns))

pub widths_known : (kept : Kept) (selects : List Select) (width : ℕ) → AllFit (λ s. QueryFits s kept) selects
    → list_all (spans_width width) selects ≡ list_all (has_width width) (queries_in kept selects)
widths_known kept [] width fit = refl
widths_known kept (s ∷ ss) width fit = λ i. width_known kept s width fit.0 i && widths_known kept ss width fit.1 i

pub first_width_known : (kept : Kept) (selects : List Select) → AllFit (λ s. QueryFits s kept) selects → first_width selects ≡ width_of (queries_in kept selects)
first_width_known kept [] fit = refl
first_width_known kept (s ∷ ss) fit = sym (length-map (cut kept.columns s.columns) _ ∙ cut_length kept.columns s.columns fit.0.columns)

pub columns_many : (kept : Kept) (span : Span) → IsWithin kept.names span → span.count ≡ length (names_in span kept)
columns_many kept span within = sym (length-map (cut kept.names span) _ ∙ cut_length kept.names span within)

pub fit_before : {A : Type 0} → (Fits : A → Type 0) (xs : List A) (x : A) → AllFit Fits (xs ++ x ∷ []) → AllFit Fits xs × Fits x
fit_before Fits [] x all = (tt, all.0)
fit_before Fits (y ∷ ys) x all = let more = fit_before Fits ys x all.1 in ((all.0, more.0), more.1)

-- the selects of a table, by those before the last and the last
abbrev pub split_holds : List Header → Header → List Query → Query → Bool
split_holds earlier own [] last = query_holds earlier last
split_holds earlier own (q ∷ qs) last = list_all (query_holds earlier) (q ∷ qs) && (query_holds (own ∷ earlier) last && takes_once own.name last)

and_group : (a b c : Bool) → (a && (b && c)) ≡ ((a && b) && c)
and_group a b c = grind arith

later_split : (earlier : List Header) (own : Header) (qs : List Query) (last : Query) → later_hold earlier own (qs ++ last ∷ [])
    ≡ (list_all (query_holds earlier) qs && (query_holds (own ∷ earlier) last && takes_once own.name last))
later_split earlier own [] last = refl
later_split earlier own (q ∷ []) last = and_group (query_holds earlier q) true (query_holds (own ∷ earlier) last && takes_once own.name last)
later_split earlier own (q ∷ r ∷ more) last =
    ap (λ b. query_holds earlier q && b) (later_split earlier own (r ∷ more) last)
    ∙ and_group (query_holds earlier q) (list_all (query_holds earlier) (r ∷ more)) (query_holds (own ∷ earlier) last && takes_once own.name last)

pub body_split : (earlier : List Header) (own : Header) (qs : List Query) (last : Query) → body_holds earlier own (qs ++ last ∷ []) ≡ split_holds earlier own qs last
body_split earlier own [] last = and_true (query_holds earlier last)
  where
    and_true : (a : Bool) → (a && true) ≡ a
    and_true a = grind arith
body_split earlier own (q ∷ qs) last =
    ap (λ b. query_holds earlier q && b) (later_split earlier own qs last)
    ∙ and_group (query_holds earlier q) (list_all (query_holds earlier) qs) (query_holds (own ∷ earlier) last && takes_once own.name last)

-- a select, by what was found of it
module _ (scope : Scope) (headers : List Header) (knows : Knows scope headers) (kept : Kept) (s : Select) (froms : List SqlFrom)
    (is : froms ≡ cut kept.froms s.tables) where
  froms_are : froms_hold scope froms ≡ (all_differ (map alias_of (sources_in s.tables kept)) && list_all (is_there headers) (sources_in s.tables kept))
  froms_are = ap (froms_hold scope) is ∙ froms_known scope headers knows (cut kept.froms s.tables)

  pub query_unfound : froms_hold scope froms ≡ false → false ≡ query_holds headers (query_in s kept)
  query_unfound h = sym (ap (λ b. b && (list_all (belongs headers (sources_in s.tables kept)) (cols_in s.columns kept)
      && list_all (equation_belongs headers (sources_in s.tables kept)) (equations_in s.equations kept))) (sym froms_are ∙ h))

  module _ (found : Bor (List ℕ) → Option ℕ) (cols : List Col) (equations : List Equation) (there : froms_hold scope froms ≡ true)
      (under : (alias : Bor (List ℕ)) → found alias ≡ number_under scope froms alias) (cols_are : cols ≡ cut kept.columns s.columns) where
    here : (alias : Bor (List ℕ)) → found alias ≡ number_under scope (cut kept.froms s.tables) alias
    here alias = under alias ∙ ap (λ fs. number_under scope fs alias) is

    cols_hold_as : list_all (col_found scope found) cols ≡ list_all (belongs headers (sources_in s.tables kept)) (cols_in s.columns kept)
    cols_hold_as = ap (list_all (col_found scope found)) cols_are ∙ cols_known scope headers knows (cut kept.froms s.tables) found here (cut kept.columns s.columns)

    query_is : (equations_are : equations ≡ cut kept.equations s.equations)
        → (list_all (col_found scope found) cols && list_all (equation_found scope found) equations) ≡ query_holds headers (query_in s kept)
    query_is equations_are =
        (λ i. cols_hold_as i && (ap (list_all (equation_found scope found)) equations_are
        ∙ equations_known scope headers knows (cut kept.froms s.tables) found here (cut kept.equations s.equations)) i)
        ∙ sym (ap (λ b. b && (list_all (belongs headers (sources_in s.tables kept)) (cols_in s.columns kept)
        && list_all (equation_belongs headers (sources_in s.tables kept)) (equations_in s.equations kept))) (sym froms_are ∙ there))

    pub query_misnamed : list_all (col_found scope found) cols ≡ false → false ≡ query_holds headers (query_in s kept)
    query_misnamed h =
        sym (ap (λ b. (all_differ (map alias_of (sources_in s.tables kept)) && list_all (is_there headers) (sources_in s.tables kept))
        && (b && list_all (equation_belongs headers (sources_in s.tables kept)) (equations_in s.equations kept))) (sym cols_hold_as ∙ h)
        ∙ and_none _)
      where
        and_none : (a : Bool) → (a && false) ≡ false
        and_none a = grind arith

    pub query_checked : (r : Bool) → list_all (col_found scope found) cols ≡ true → equations ≡ cut kept.equations s.equations
        → r ≡ list_all (equation_found scope found) equations → r ≡ query_holds headers (query_in s kept)
    query_checked r h equations_are e = e ∙ sym (ap (λ b. b && list_all (equation_found scope found) equations) h) ∙ query_is equations_are

-- how often a table is taken from, from a place on
pub times_drop : (name : List ℕ) (k : ℕ) (froms : List SqlFrom) → times_taken name (map source_view (drop k froms)) ≤ times_taken name (map source_view froms)
times_drop name zero froms = omega arith
times_drop name (suc k) [] = omega arith
times_drop name (suc k) (s ∷ ss) = by (bytes_eq s.table.now name) refl (times_drop name k ss)
  where
    by : (b : Bool) → bytes_eq s.table.now name ≡ b → times_taken name (map source_view (drop k ss)) ≤ times_taken name (map source_view ss)
        → times_taken name (map source_view (drop k ss)) ≤ times_taken name (map source_view (s ∷ ss))
    by true t h = rw t (omega (arith, h))
    by false t h = rw t h

pub times_step : (name : List ℕ) (k : ℕ) (froms : List SqlFrom) (s : SqlFrom) (b : Bool) → 0 < k → slice_get froms (k - 1) ≡ Some s → bytes_eq s.table.now name ≡ b
    → times_taken name (map source_view (drop (k - 1) froms)) ≡ (if b then 1 else 0) + times_taken name (map source_view (drop k froms))
times_step name k froms s b some at is =
    ap (λ (xs : List SqlFrom). times_taken name (map source_view xs)) (drop_step froms k s some at)
    ∙ ap (λ c. if c then suc (times_taken name (map source_view (drop k froms))) else times_taken name (map source_view (drop k froms))) is ∙ by b
  where
    by : (c : Bool) → (if c then suc (times_taken name (map source_view (drop k froms))) else times_taken name (map source_view (drop k froms)))
        ≡ (if c then 1 else 0) + times_taken name (map source_view (drop k froms))
    by true = omega arith
    by false = omega arith

three_false : (a b c : Bool) → b ≡ false → (a && (b && c)) ≡ false
three_false a b c h = grind arith

third_false : (a b c : Bool) → c ≡ false → (a && (b && c)) ≡ false
third_false a b c h = grind arith

first_false : (a b : Bool) → a ≡ false → (a && b) ≡ false
first_false a b h = grind arith

middle_true : (a b c : Bool) → b ≡ true → (a && (b && c)) ≡ (a && c)
middle_true a b c h = grind arith

split_earlier : (earlier : List Header) (own : Header) (qs : List Query) (last : Query) → list_all (query_holds earlier) qs ≡ false → split_holds earlier own qs last ≡ false
split_earlier earlier own [] last h = absurd (true≢false h)
split_earlier earlier own (q ∷ qs) last h = first_false _ _ h

none_before : {A : Type 0} → (xs : List A) → true ≡ (length xs == 0) → xs ≡ []
none_before [] h = refl
none_before (x ∷ xs) h = absurd (grind (arith, nat_tests))

-- a table, by what was found of it
module _ (kept : Kept) (table : CodeTable) (headers : List Header) (body : List Select) (names : List (Bor (List ℕ)))
    (bodies : body ≡ cut kept.selects table.body) (names_are : names ≡ cut kept.names table.columns) (fits : TableFits table kept) where
  abbrev own : Header
  own = header_of (table_in table kept)

  abbrev fresh : Bool
  fresh = is_none (columns_of headers table.name.now) && all_differ (names_in table.columns kept)

  fresh_as : (is_none (columns_of headers table.name.now) && all_differ (map name_view names)) ≡ fresh
  fresh_as = ap (λ ns. is_none (columns_of headers table.name.now) && all_differ (map name_view ns)) names_are

  width_as : list_all (spans_width table.columns.count) body ≡ list_all (has_width (length (names_in table.columns kept))) (union_in table.body kept)
  width_as =
      ap (list_all (spans_width table.columns.count)) bodies ∙ widths_known kept (cut kept.selects table.body) table.columns.count fits.body.all
      ∙ ap (λ n. list_all (has_width n) (union_in table.body kept)) (columns_many kept table.columns fits.names)

  pub own_known : (scope : Scope) → Knows scope (header table.name names ∷ headers) → Knows scope (own ∷ headers)
  own_known scope knows = subst (λ ns. Knows scope (header table.name ns ∷ headers)) names_are knows

  pub table_unlike : list_all (spans_width table.columns.count) body ≡ false → false ≡ table_holds headers (table_in table kept)
  table_unlike h = sym (three_false fresh _ _ (sym width_as ∙ h))

  pub table_stale : (is_none (columns_of headers table.name.now) && all_differ (map name_view names)) ≡ false → false ≡ table_holds headers (table_in table kept)
  table_stale h = sym (first_false fresh _ (sym fresh_as ∙ h))

  pub table_bare : (r : Bool) → body ≡ [] → r ≡ (is_none (columns_of headers table.name.now) && all_differ (map name_view names))
      → r ≡ table_holds headers (table_in table kept)
  table_bare r none e =
      e ∙ fresh_as ∙ and_true fresh
      ∙ ap (λ b. fresh && (list_all (has_width (length (names_in table.columns kept))) (queries_in kept b) && body_holds headers own (queries_in kept b))) (sym none ∙ bodies)
    where
      and_true : (a : Bool) → a ≡ (a && true)
      and_true a = grind arith

  module _ (earlier : List Select) (last : Select) (split : body ≡ earlier ++ last ∷ []) where
    both_fit : AllFit (λ s. QueryFits s kept) earlier × QueryFits last kept
    both_fit = fit_before (λ s. QueryFits s kept) earlier last (subst (AllFit (λ s. QueryFits s kept)) (sym bodies ∙ split) fits.body.all)

    pub earlier_fit : AllFit (λ s. QueryFits s kept) earlier
    earlier_fit = both_fit.0

    pub last_fits : QueryFits last kept
    last_fits = both_fit.1

    body_as : body_holds headers own (union_in table.body kept) ≡ split_holds headers own (queries_in kept earlier) (query_in last kept)
    body_as =
        ap (λ b. body_holds headers own (queries_in kept b)) (sym bodies ∙ split)
        ∙ ap (body_holds headers own) (map-append (λ s. query_in s kept) earlier (last ∷ []))
        ∙ body_split headers own (queries_in kept earlier) (query_in last kept)

    table_wrong : split_holds headers own (queries_in kept earlier) (query_in last kept) ≡ false → false ≡ table_holds headers (table_in table kept)
    table_wrong h = sym (third_false fresh _ _ (body_as ∙ h))

    pub table_wrong_earlier : list_all (query_holds headers) (queries_in kept earlier) ≡ false → false ≡ table_holds headers (table_in table kept)
    table_wrong_earlier h = table_wrong (split_earlier headers own (queries_in kept earlier) (query_in last kept) h)

    -- the table, where its selects have its width
    table_as : list_all (spans_width table.columns.count) body ≡ true
        → (fresh && split_holds headers own (queries_in kept earlier) (query_in last kept)) ≡ table_holds headers (table_in table kept)
    table_as w = ap (λ b. fresh && b) (sym body_as) ∙ sym (middle_true fresh _ _ (sym width_as ∙ w))

    -- of one select
    pub table_wrong_single : earlier ≡ [] → query_holds headers (query_in last kept) ≡ false → false ≡ table_holds headers (table_in table kept)
    table_wrong_single none h = table_wrong (ap (λ xs. split_holds headers own (queries_in kept xs) (query_in last kept)) none ∙ h)

    pub table_single : (r : Bool) → earlier ≡ [] → list_all (spans_width table.columns.count) body ≡ true → query_holds headers (query_in last kept) ≡ true
        → r ≡ (is_none (columns_of headers table.name.now) && all_differ (map name_view names)) → r ≡ table_holds headers (table_in table kept)
    table_single r none w h e =
        e ∙ fresh_as ∙ and_true fresh
        ∙ ap (λ b. fresh && b) (sym (ap (λ xs. split_holds headers own (queries_in kept xs) (query_in last kept)) none ∙ h)) ∙ table_as w
      where
        and_true : (a : Bool) → a ≡ (a && true)
        and_true a = grind arith

    -- of more, whose last sees the table
    several : (xs : List Select) → false ≡ (length xs == 0) → split_holds headers own (queries_in kept xs) (query_in last kept)
        ≡ (list_all (query_holds headers) (queries_in kept xs) && (query_holds (own ∷ headers) (query_in last kept) && takes_once table.name.now (query_in last kept)))
    several [] h = absurd (true≢false (sym h))
    several (x ∷ xs) h = refl

    pub table_wrong_last : false ≡ (length earlier == 0) → query_holds (own ∷ headers) (query_in last kept) ≡ false → false ≡ table_holds headers (table_in table kept)
    table_wrong_last some h = table_wrong (several earlier some ∙ three_false _ _ _ h)

    pub table_several : (r : Bool) (froms : List SqlFrom) → false ≡ (length earlier == 0) → list_all (spans_width table.columns.count) body ≡ true
        → (is_none (columns_of headers table.name.now) && all_differ (map name_view names)) ≡ true
        → list_all (query_holds headers) (queries_in kept earlier) ≡ true → query_holds (own ∷ headers) (query_in last kept) ≡ true
        → froms ≡ cut kept.froms last.tables → r ≡ nat_le (times_taken table.name.now (map source_view froms)) 1 → r ≡ table_holds headers (table_in table kept)
    table_several r froms some w f h q is e =
        e ∙ ap (λ fs. nat_le (times_taken table.name.now (map source_view fs)) 1) is
        ∙ (λ i. sym (sym fresh_as ∙ f) i && (sym h i && (sym q i && takes_once table.name.now (query_in last kept))))
        ∙ ap (λ b. fresh && b) (sym (several earlier some)) ∙ table_as w

-- the last union, by what was found of it
module _ (kept : Kept) (span : Span) (headers : List Header) (selects : List Select) (width : ℕ) (is : selects ≡ cut kept.selects span)
    (all : AllFit (λ s. QueryFits s kept) (cut kept.selects span)) (width_is : width ≡ first_width selects) where
  width_first : width ≡ width_of (union_in span kept)
  width_first = width_is ∙ ap first_width is ∙ first_width_known kept (cut kept.selects span) all

  widths_as : list_all (spans_width width) selects ≡ list_all (has_width (width_of (union_in span kept))) (union_in span kept)
  widths_as = ap (list_all (spans_width width)) is ∙ widths_known kept (cut kept.selects span) width all
      ∙ ap (λ n. list_all (has_width n) (union_in span kept)) width_first

  last_three : (a b c : Bool) → b ≡ false → ((a && b) && c) ≡ false
  last_three a b c h = grind arith

  last_first : (a b c : Bool) → a ≡ false → ((a && b) && c) ≡ false
  last_first a b c h = grind arith

  last_both : (a b c : Bool) → a ≡ true → b ≡ true → ((a && b) && c) ≡ c
  last_both a b c g h = grind arith

  narrow : width ≤ 4 → nat_le (width_of (union_in span kept)) last_most ≡ true
  narrow h = ap (λ n. nat_le n last_most) (sym width_first) ∙ grind (arith, nat_tests)

  pub last_wide : 4 < width → false ≡ last_hold headers (union_in span kept)
  last_wide h = sym (last_first _ _ _ (ap (λ n. nat_le n last_most) (sym width_first) ∙ grind (arith, nat_tests)))

  pub last_unlike : list_all (spans_width width) selects ≡ false → false ≡ last_hold headers (union_in span kept)
  last_unlike h = sym (last_three _ _ _ (sym widths_as ∙ h))

  pub last_checked : (r : Bool) → width ≤ 4 → list_all (spans_width width) selects ≡ true → r ≡ list_all (query_holds headers) (queries_in kept selects)
      → r ≡ last_hold headers (union_in span kept)
  last_checked r small h e =
      e ∙ ap (λ xs. list_all (query_holds headers) (queries_in kept xs)) is ∙ sym (last_both _ _ _ (narrow small) (sym widths_as ∙ h))

-- the tables of a text so far
pub record SoFar (scope : Scope) (kept : Kept) (last : Span) (i : ℕ) : Type 0 where
  pub headers : List Header
  pub knows : Knows scope headers
  pub many : i + 1 ≡ length headers
  pub small : i ≤ length kept.tables
  pub fit : AllFit (λ t. TableFits t kept) (drop i kept.tables)
  pub same : holds (reading_in last kept)
      ≡ (tables_hold headers (map (λ t. table_in t kept) (drop i kept.tables)) && last_hold (headers_after headers (map (λ t. table_in t kept) (drop i kept.tables))) (union_in last kept))

pub so_far_start : (scope : Scope) (kept : Kept) (last : Span) → Knows scope (edge_header ∷ []) → AllFit (λ t. TableFits t kept) kept.tables → SoFar scope kept last 0
so_far_start scope kept last knows fit = record {
  headers = edge_header ∷ [];
  knows = knows;
  many = refl;
  small = omega arith;
  fit = fit;
  same = refl;
}

-- a scope of no tables
pub no_tables : (scope : Scope) → scope.tables.entries ≡ [] → scope.columns.keys ≡ [] → Knows scope []
no_tables scope entries keys = record {
  numbers = λ name. ap (lookup (λ k. bytes_eq name.now k.now)) entries;
  columns = λ number name. ap (list_any (λ k. (number == k.0) && bytes_eq name.now k.1.now)) keys;
}

module _ (scope : Scope) (kept : Kept) (last : Span) (i : ℕ) (s : SoFar scope kept last i) (t : CodeTable) (within : i < length kept.tables)
    (at : slice_get kept.tables i ≡ Some t) where
  next_table : drop i kept.tables ≡ t ∷ drop (suc i) kept.tables
  next_table = drop-cons kept.tables i t within ∙ (λ j. get_or_from_slice_get kept.tables i t t at j ∷ drop (suc i) kept.tables)

  both_fit_next : AllFit (λ x. TableFits x kept) (t ∷ drop (suc i) kept.tables)
  both_fit_next = subst (AllFit (λ x. TableFits x kept)) next_table s.fit

  pub next_fits : TableFits t kept
  next_fits = both_fit_next.0

  next_same : holds (reading_in last kept)
      ≡ ((table_holds s.headers (table_in t kept) && tables_hold (header_of (table_in t kept) ∷ s.headers) (map (λ x. table_in x kept) (drop (suc i) kept.tables)))
      && last_hold (headers_after (header_of (table_in t kept) ∷ s.headers) (map (λ x. table_in x kept) (drop (suc i) kept.tables))) (union_in last kept))
  next_same = s.same ∙ ap (λ xs. tables_hold s.headers (map (λ x. table_in x kept) xs) && last_hold (headers_after s.headers (map (λ x. table_in x kept) xs)) (union_in last kept)) next_table

  front_false : (a b c : Bool) → a ≡ false → false ≡ ((a && b) && c)
  front_false a b c h = grind arith

  front_true : (a b c : Bool) → a ≡ true → ((a && b) && c) ≡ (b && c)
  front_true a b c h = grind arith

  pub so_far_wrong : table_holds s.headers (table_in t kept) ≡ false → false ≡ holds (reading_in last kept)
  so_far_wrong h = front_false _ _ _ h ∙ sym next_same

  pub so_far_more : (next : Scope) (j : ℕ) → j ≡ i + 1 → table_holds s.headers (table_in t kept) ≡ true → Knows next (header_of (table_in t kept) ∷ s.headers)
      → SoFar next kept last j
  so_far_more next j is h knows =
      let place : suc i ≡ j = omega (arith, is) in
      record {
        headers = header_of (table_in t kept) ∷ s.headers;
        knows = knows;
        many = omega (arith, is, s.many);
        small = omega (arith, is, within);
        fit = subst (λ n. AllFit (λ x. TableFits x kept) (drop n kept.tables)) place both_fit_next.1;
        same = next_same ∙ front_true _ _ _ h
            ∙ ap (λ n. tables_hold (header_of (table_in t kept) ∷ s.headers) (map (λ x. table_in x kept) (drop n kept.tables))
            && last_hold (headers_after (header_of (table_in t kept) ∷ s.headers) (map (λ x. table_in x kept) (drop n kept.tables))) (union_in last kept)) place;
      }

pub so_far_end : (scope : Scope) (kept : Kept) (last : Span) (i : ℕ) (s : SoFar scope kept last i) (r : Bool) → length kept.tables ≤ i
    → r ≡ last_hold s.headers (union_in last kept) → r ≡ holds (reading_in last kept)
so_far_end scope kept last i s r end e =
    e ∙ sym (s.same ∙ ap (λ xs. tables_hold s.headers (map (λ x. table_in x kept) xs) && last_hold (headers_after s.headers (map (λ x. table_in x kept) xs)) (union_in last kept))
    (drop_of_length-le kept.tables end))

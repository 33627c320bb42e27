-- The parts of a select, of a table and of a text, put together from what was read of each, or missed.
use Rattle.std.proofs.Common.{◌≡◌, ℕ, ◌+◌, true, false, List, [], ◌∷◌, ◌++◌, length, refl, sym, ap, ◌∙◌, true≢false, arith}
use Rattle.std.specs.Borrow.{Bor}
use Rattle.std.proofs.lemmas.List.{length-append}
use Rattle.gm_text.specs.declared.lists.Span.{Span}
use Rattle.sql_read.specs.declared.lists.Lists.{Lists}
use Rattle.sql_read.specs.declared.query.Select.{Select as CodeSelect}
use Rattle.sql_read.specs.declared.query.Table.{Table as CodeTable}
use Rattle.sql_read.specs.declared.tokens.Mark.TheVariants.{With, Recursive, As, Select, From, Where, And, Union, Open, Close, Comma}
use Rattle.sql_read.specs.Tokens.{Token, Fixed, Number}
use Rattle.sql_read.specs.Grammar.{Col, Equation, Query, Table, Reading, listed, word_then, col_then, source_then, equation_then, columns_then, where_then, from_then, query_then, union_then, body_then, table_then, tokens_of_text, some, is_full_query, is_full_union, is_full_table, is_full}
use Rattle.sql_read.specs.Absent.{NotFirst, NoGood, NoList, NoColumns, NoReading, any, always, good_list, ends_query}
use Rattle.sql_read.specs.Kept.{Kept, query_in, QueryFits, table_in, TableFits, reading_in}
use Rattle.sql_read.specs.Parsed.{kept_of, Extends, EndsColumns, ColsAt, ColumnsAt, SourcesAt, WhereAt, EquationsAt, NamesAt, QueryAt, UnionAt, BodyAt, TableAt, TablesAt, ReadingAt}
use Rattle.sql_read.proofs.GrammarLemmas.{and_left, and_right, and_both, tail_same, all_any, some_any, no_where, no_and, from_comma, conditions_comma, columns_first, from_ends, froms_are_one, equations_are_one, listed_one, queries_are_one, unions_are_one, words_are_one, tables_are_one, close_union, close_comma, union_comma, nothing}
use Rattle.sql_read.proofs.ListLemmas.{Listing, listing_start, listing_more, listing_end, listing_whole, listing_none, extends_refl, extends_then}

-- columns
as_columns : (value : List Col) (rest : List Token) → good_list any value ≡ true → listed col_then (Fixed Comma) value rest ≡ columns_then value rest
as_columns [] rest h = absurd (true≢false (sym h))
as_columns (x ∷ xs) rest h = refl

columns_end : (value : List Col) (rest : List Token) → NotFirst (Fixed Comma) rest → EndsColumns value rest
columns_end [] rest n = tt
columns_end (x ∷ xs) rest n = n

pub columns_listed : (old new : Lists) (ts rest : List Token) (span : Span) → ColsAt old new ts span rest → ColumnsAt old new ts span rest
columns_listed old new ts rest span at =
    let p = at.parsed in
    record {
      parsed = record {
        value = p.value;
        is_good = refl;
        says = p.says ∙ as_columns p.value rest p.is_good;
        grown = p.grown;
        shown = p.shown;
        fits = p.fits;
      };
      ends = columns_end p.value rest at.ends;
    }

pub columns_one : (old : Lists) (ts rest : List Token) (first : ℕ) → ts ≡ Number 1 ∷ rest → first ≡ length old.columns.items
    → ColumnsAt old old ts (record { first = first; count = 0 }) rest
columns_one old ts rest first is at = record {
  parsed = record {
    value = [];
    is_good = refl;
    says = is;
    grown = extends_refl (kept_of old);
    shown = λ later e. refl;
    fits = λ later e. omega (arith, at, ap length e.columns.1 ∙ length-append old.columns.items e.columns.0);
  };
  ends = tt;
}

pub columns_none : (ts : List Token) → NotFirst (Number 1) ts → NoList col_then any always (Fixed Comma) ts → NoColumns ts
columns_none ts one list [] us e = one _ e
columns_none ts one list (c ∷ cs) us e = list (c ∷ cs) (Fixed From ∷ us) (all_any cs) refl (from_comma us) e

-- conditions
pub where_nothing : (old : Lists) (ts : List Token) (first : ℕ) → first ≡ length old.equations.items → ends_query ts ≡ true
    → WhereAt old old ts (record { first = first; count = 0 }) ts
where_nothing old ts first at h = record {
  parsed = record {
    value = [];
    is_good = refl;
    says = refl;
    grown = extends_refl (kept_of old);
    shown = λ later e. refl;
    fits = λ later e. omega (arith, at, ap length e.equations.1 ∙ length-append old.equations.items e.equations.0);
  };
  ends = h;
}

as_where : (value : List Equation) (rest : List Token) → good_list any value ≡ true
    → Fixed Where ∷ listed equation_then (Fixed And) value rest ≡ where_then value rest
as_where [] rest h = absurd (true≢false (sym h))
as_where (x ∷ xs) rest h = refl

pub where_listed : (old new : Lists) (ts here rest : List Token) (span : Span) → ts ≡ Fixed Where ∷ here → EquationsAt old new here span rest
    → ends_query rest ≡ true → WhereAt old new ts span rest
where_listed old new ts here rest span is at h =
    let p = at.parsed in
    record {
      parsed = record {
        value = p.value;
        is_good = refl;
        says = is ∙ ap (λ (x : List Token). Fixed Where ∷ x) p.says ∙ as_where p.value rest p.is_good;
        grown = p.grown;
        shown = p.shown;
        fits = p.fits;
      };
      ends = h;
    }

-- neither the end of a select nor a condition
pub where_none : (ts : List Token) → NotFirst (Fixed Where) ts → ends_query ts ≡ false → NoGood where_then any ends_query ts
where_none ts n h [] us g c e = true≢false (sym c ∙ ap ends_query (sym e) ∙ h)
where_none ts n h (x ∷ xs) us g c e = n _ e

-- `WHERE` with no equations
pub where_no_list : (ts here : List Token) → ts ≡ Fixed Where ∷ here → NoList equation_then any always (Fixed And) here → NoGood where_then any ends_query ts
where_no_list ts here is none [] us g c e = no_where us c here (sym e ∙ is)
where_no_list ts here is none (x ∷ xs) us g c e =
    none (x ∷ xs) us (all_any xs) refl (no_and us c) (tail_same _ _ _ _ (sym is ∙ e))

-- `WHERE` with equations, and then no end of a select
pub where_no_end : (old new : Lists) (ts here rest : List Token) (span : Span) → ts ≡ Fixed Where ∷ here → EquationsAt old new here span rest
    → ends_query rest ≡ false → NoGood where_then any ends_query ts
where_no_end old new ts here rest span is at h [] us g c e = no_where us c here (sym e ∙ is)
where_no_end old new ts here rest span is at h (x ∷ xs) us g c e =
    let p = at.parsed in
    let both = listed_one equation_then any always (Fixed And) equations_are_one (λ ts. refl) p.value (x ∷ xs) rest us
    p.is_good (all_any xs) refl refl at.ends (no_and us c) (sym p.says ∙ tail_same _ _ _ _ (sym is ∙ e)) in
    true≢false (sym c ∙ ap ends_query (sym both.1) ∙ h)

-- a select, by the tokens behind `SELECT`, behind its columns, behind `FROM` and behind its tables
module _ (a b : Lists) (ts t1 t2 : List Token) (columns : Span) (is : ts ≡ Fixed Select ∷ t1) (read : ColumnsAt a b t1 columns t2) where
  -- what stands behind the columns of a select
  behind_columns : (x : Query) (us : List Token) → ts ≡ query_then x us → t2 ≡ from_then x us
  behind_columns x us e =
      (columns_first read.parsed.value x.columns t2 (from_then x us) read.ends (from_ends x.columns _)
      (sym read.parsed.says ∙ tail_same _ _ _ _ (sym is ∙ e))).1

  pub query_no_from : NotFirst (Fixed From) t2 → NoGood query_then is_full_query ends_query ts
  query_no_from none x us g h e = none _ (behind_columns x us e)

  module _ (t3 : List Token) (from : t2 ≡ Fixed From ∷ t3) where
    pub query_no_sources : NoList source_then any always (Fixed Comma) t3 → NoGood query_then is_full_query ends_query ts
    query_no_sources none x us g h e =
        none x.sources (where_then x.equations us) (some_any x.sources g) refl (conditions_comma x.equations us h)
        (tail_same _ _ _ _ (sym from ∙ behind_columns x us e))

    module _ (c : Lists) (t4 : List Token) (tables : Span) (sources : SourcesAt b c t3 tables t4) where
      pub query_no_where : NoGood where_then any ends_query t4 → NoGood query_then is_full_query ends_query ts
      query_no_where none x us g h e =
          let p = sources.parsed in
          let both = listed_one source_then any always (Fixed Comma) froms_are_one (λ us. refl) p.value x.sources t4 (where_then x.equations us)
          p.is_good (some_any x.sources g) refl refl sources.ends (conditions_comma x.equations us h)
          (sym p.says ∙ tail_same _ _ _ _ (sym from ∙ behind_columns x us e)) in
          none x.equations us refl h both.1

      pub query_read : (d : Lists) (rest : List Token) (equations : Span) → WhereAt c d t4 equations rest
          → QueryAt a d ts (record { columns = columns; tables = tables; equations = equations }) rest
      query_read d rest equations last =
          let x = read.parsed in
          let y = sources.parsed in
          let z = last.parsed in
          let behind = extends_then (kept_of b) (kept_of c) (kept_of d) y.grown z.grown in
          record {
            parsed = record {
              value = record { columns = x.value; sources = y.value; equations = z.value };
              is_good = and_left (some y.value) _ y.is_good;
              says = is ∙ ap (λ (u : List Token). Fixed Select ∷ u) (x.says ∙ ap (columns_then x.value)
                  (from ∙ ap (λ (u : List Token). Fixed From ∷ u) (y.says ∙ ap (listed source_then (Fixed Comma) y.value) z.says)));
              grown = extends_then (kept_of a) (kept_of b) (kept_of d) x.grown behind;
              shown = λ later e i. record {
                columns = x.shown later (extends_then (kept_of b) (kept_of d) later behind e) i;
                sources = y.shown later (extends_then (kept_of c) (kept_of d) later z.grown e) i;
                equations = z.shown later e i;
              };
              fits = λ later e. record {
                columns = x.fits later (extends_then (kept_of b) (kept_of d) later behind e);
                tables = y.fits later (extends_then (kept_of c) (kept_of d) later z.grown e);
                equations = z.fits later e;
              };
            };
            ends = last.ends;
          }

pub query_no_columns : (ts t1 : List Token) → ts ≡ Fixed Select ∷ t1 → NoColumns t1 → NoGood query_then is_full_query ends_query ts
query_no_columns ts t1 is none x us g h e = none x.columns _ (tail_same _ _ _ _ (sym is ∙ e))

-- the loop over selects
abbrev pub UnionListing : Kept → Kept → List Token → List Token → Type 0
UnionListing = Listing query_then is_full_query ends_query (Fixed Union) queries_are_one (λ ts. refl) query_in QueryFits (λ k. k.selects) (λ a b e. e.selects)

pub union_start : (start : Kept) (ts : List Token) → UnionListing start start ts ts
union_start = listing_start query_then is_full_query ends_query (Fixed Union) queries_are_one (λ ts. refl) query_in QueryFits (λ k. k.selects) (λ a b e. e.selects)

pub union_none : (start now : Kept) (ts here : List Token) → UnionListing start now ts here → NoGood query_then is_full_query ends_query here
    → NoList query_then is_full_query ends_query (Fixed Union) ts
union_none = listing_none query_then is_full_query ends_query (Fixed Union) queries_are_one (λ ts. refl) query_in QueryFits (λ k. k.selects) (λ a b e. e.selects)

pub union_more : (start : Kept) (now mid : Lists) (next : Kept) (ts here rest more : List Token) (c : CodeSelect) → UnionListing start (kept_of now) ts here
    → QueryAt now mid here c rest → mid.selects.items ≡ now.selects.items → Extends (kept_of mid) next → next.selects ≡ mid.selects.items ++ c ∷ []
    → rest ≡ Fixed Union ∷ more → UnionListing start next ts more
union_more start now mid next ts here rest more c l at =
    listing_more query_then is_full_query ends_query (Fixed Union) queries_are_one (λ ts. refl) query_in QueryFits (λ k. k.selects) (λ a b e. e.selects)
    start (kept_of now) (kept_of mid) next ts here rest more c l at.parsed

pub union_end : (start now mid next : Lists) (ts here rest : List Token) (c : CodeSelect) (span : Span) → UnionListing (kept_of start) (kept_of now) ts here
    → QueryAt now mid here c rest → mid.selects.items ≡ now.selects.items → Extends (kept_of mid) (kept_of next) → next.selects.items ≡ mid.selects.items ++ c ∷ []
    → span.first ≡ length start.selects.items → span.first + span.count ≡ length next.selects.items → NotFirst (Fixed Union) rest
    → UnionAt start next ts span rest
union_end start now mid next ts here rest c span l at same grows pushed first count ends =
    let p = listing_end query_then is_full_query ends_query (Fixed Union) queries_are_one (λ ts. refl) query_in QueryFits (λ k. k.selects) (λ a b e. e.selects)
    (kept_of start) (kept_of now) (kept_of mid) (kept_of next) ts here rest c span l at.parsed same grows pushed first count in
    record {
      parsed = record {
        value = p.value;
        is_good = p.is_good;
        says = p.says;
        grown = p.grown;
        shown = p.shown;
        fits = λ later e. record { within = (p.fits later e).0; all = (p.fits later e).1 };
      };
      ends = at.ends;
      no_more = ends;
    }

-- the loop over tables
abbrev pub TableListing : Kept → Kept → List Token → List Token → Type 0
TableListing = Listing table_then is_full_table always (Fixed Comma) tables_are_one (λ ts. refl) table_in TableFits (λ k. k.tables) (λ a b e. e.tables)

pub tables_start : (start : Kept) (ts : List Token) → TableListing start start ts ts
tables_start = listing_start table_then is_full_table always (Fixed Comma) tables_are_one (λ ts. refl) table_in TableFits (λ k. k.tables) (λ a b e. e.tables)

pub tables_none : (start now : Kept) (ts here : List Token) → TableListing start now ts here → NoGood table_then is_full_table always here
    → NoList table_then is_full_table always (Fixed Comma) ts
tables_none = listing_none table_then is_full_table always (Fixed Comma) tables_are_one (λ ts. refl) table_in TableFits (λ k. k.tables) (λ a b e. e.tables)

pub tables_more : (start : Kept) (now mid : Lists) (next : Kept) (ts here rest more : List Token) (c : CodeTable) → TableListing start (kept_of now) ts here
    → TableAt now mid here c rest → mid.tables.items ≡ now.tables.items → Extends (kept_of mid) next → next.tables ≡ mid.tables.items ++ c ∷ []
    → rest ≡ Fixed Comma ∷ more → TableListing start next ts more
tables_more start now mid next ts here rest more c l at =
    listing_more table_then is_full_table always (Fixed Comma) tables_are_one (λ ts. refl) table_in TableFits (λ k. k.tables) (λ a b e. e.tables)
    start (kept_of now) (kept_of mid) next ts here rest more c l at.parsed

pub tables_end : (start now mid next : Lists) (ts here rest : List Token) (c : CodeTable) → TableListing (kept_of start) (kept_of now) ts here
    → TableAt now mid here c rest → mid.tables.items ≡ now.tables.items → Extends (kept_of mid) (kept_of next) → next.tables.items ≡ mid.tables.items ++ c ∷ []
    → start.tables.items ≡ [] → NotFirst (Fixed Comma) rest → TablesAt start next ts rest
tables_end start now mid next ts here rest c l at same grows pushed empty ends =
    let p = listing_whole table_then is_full_table always (Fixed Comma) tables_are_one (λ ts. refl) table_in TableFits (λ k. k.tables) (λ a b e. e.tables)
    (kept_of start) (kept_of now) (kept_of mid) (kept_of next) ts here rest c l at.parsed same grows pushed empty in
    record {
      value = p.value;
      is_good = p.is_good;
      says = p.says;
      shown = p.shown;
      fits = p.fits;
      ends = ends;
    }

-- the union that a table is
pub body_no_union : (ts t1 t2 : List Token) → ts ≡ Fixed As ∷ t1 → t1 ≡ Fixed Open ∷ t2 → NoList query_then is_full_query ends_query (Fixed Union) t2
    → NoGood body_then is_full_union always ts
body_no_union ts t1 t2 is opened none x us g h e =
    none x (Fixed Close ∷ us) g refl (close_union us) (tail_same _ _ _ _ (sym opened ∙ tail_same _ _ _ _ (sym is ∙ e)))

pub body_no_close : (a b : Lists) (ts t1 t2 t3 : List Token) (span : Span) → ts ≡ Fixed As ∷ t1 → t1 ≡ Fixed Open ∷ t2 → UnionAt a b t2 span t3
    → NotFirst (Fixed Close) t3 → NoGood body_then is_full_union always ts
body_no_close a b ts t1 t2 t3 span is opened at none x us g h e =
    let p = at.parsed in
    none us (unions_are_one p.value x t3 (Fixed Close ∷ us) p.is_good g at.ends refl at.no_more (close_union us)
    (sym p.says ∙ tail_same _ _ _ _ (sym opened ∙ tail_same _ _ _ _ (sym is ∙ e)))).1

pub body_read : (a b : Lists) (ts t1 t2 t3 rest : List Token) (span : Span) → ts ≡ Fixed As ∷ t1 → t1 ≡ Fixed Open ∷ t2 → UnionAt a b t2 span t3
    → t3 ≡ Fixed Close ∷ rest → BodyAt a b ts span rest
body_read a b ts t1 t2 t3 rest span is opened at close =
    let p = at.parsed in
    record {
      parsed = record {
        value = p.value;
        is_good = p.is_good;
        says = is ∙ ap (λ (u : List Token). Fixed As ∷ u) (opened ∙ ap (λ (u : List Token). Fixed Open ∷ u) (p.says ∙ ap (union_then p.value) close));
        grown = p.grown;
        shown = p.shown;
        fits = p.fits;
      };
    }

-- a table, by the tokens behind its name, behind `(`, behind its columns and behind `)`
module _ (ts t1 t2 : List Token) (name : Bor (List ℕ)) (is : ts ≡ word_then name.now t1) (opened : t1 ≡ Fixed Open ∷ t2) where
  behind_open : (x : Table) (us : List Token) → ts ≡ table_then x us → t2 ≡ listed word_then (Fixed Comma) x.columns (Fixed Close ∷ body_then x.body us)
  behind_open x us e = tail_same _ _ _ _ (sym opened ∙ tail_same _ _ _ _ (sym is ∙ e))

  pub table_no_names : NoList word_then any always (Fixed Comma) t2 → NoGood table_then is_full_table always ts
  table_no_names none x us g h e =
      none x.columns _ (some_any x.columns (and_left (some x.columns) _ g)) refl (close_comma _) (behind_open x us e)

  module _ (a b : Lists) (t3 : List Token) (columns : Span) (names : NamesAt a b t2 columns t3) where
    behind_names : (x : Table) (us : List Token) → is_full_table x ≡ true → ts ≡ table_then x us → t3 ≡ Fixed Close ∷ body_then x.body us
    behind_names x us g e =
        let p = names.parsed in
        (listed_one word_then any always (Fixed Comma) words_are_one (λ us. refl) p.value x.columns t3 _ p.is_good
        (some_any x.columns (and_left (some x.columns) _ g)) refl refl names.ends (close_comma _) (sym p.says ∙ behind_open x us e)).1

    pub table_no_close : NotFirst (Fixed Close) t3 → NoGood table_then is_full_table always ts
    table_no_close none x us g h e = none _ (behind_names x us g e)

    module _ (t4 : List Token) (close : t3 ≡ Fixed Close ∷ t4) where
      pub table_no_body : NoGood body_then is_full_union always t4 → NoGood table_then is_full_table always ts
      table_no_body none x us g h e =
          none x.body us (and_right (some x.columns) _ g) refl (tail_same _ _ _ _ (sym close ∙ behind_names x us g e))

      pub table_read : (c : Lists) (rest : List Token) (body : Span) → BodyAt b c t4 body rest
          → TableAt a c ts (record { name = name; columns = columns; body = body }) rest
      table_read c rest body at =
          let p = names.parsed in
          let q = at.parsed in
          record {
            parsed = record {
              value = record { name = name.now; columns = p.value; body = q.value };
              is_good = and_both (some p.value) _ (and_left (some p.value) _ p.is_good) q.is_good;
              says = is ∙ ap (word_then name.now) (opened ∙ ap (λ (u : List Token). Fixed Open ∷ u) (p.says ∙ ap (listed word_then (Fixed Comma) p.value)
                  (close ∙ ap (λ (u : List Token). Fixed Close ∷ u) q.says)));
              grown = extends_then (kept_of a) (kept_of b) (kept_of c) p.grown q.grown;
              shown = λ later e i. record {
                name = name.now;
                columns = p.shown later (extends_then (kept_of b) (kept_of c) later q.grown e) i;
                body = q.shown later e i;
              };
              fits = λ later e. record { names = p.fits later (extends_then (kept_of b) (kept_of c) later q.grown e); body = q.fits later e };
            };
          }

-- the whole text, by the tokens behind `WITH`, behind `RECURSIVE`, behind the tables and behind the last union
module _ (ts t1 t2 : List Token) (is : ts ≡ Fixed With ∷ t1) (recursive : t1 ≡ Fixed Recursive ∷ t2) where
  behind_recursive : (r : Reading) → ts ≡ tokens_of_text r → t2 ≡ listed table_then (Fixed Comma) r.tables (union_then r.last [])
  behind_recursive r e = tail_same _ _ _ _ (sym recursive ∙ tail_same _ _ _ _ (sym is ∙ e))

  tables_full : (r : Reading) → is_full r ≡ true → good_list is_full_table r.tables ≡ true
  tables_full r g = and_left (good_list is_full_table r.tables) _ g

  last_full : (r : Reading) → is_full r ≡ true → is_full_union r.last ≡ true
  last_full r g = and_right (good_list is_full_table r.tables) _ g

  last_comma : (r : Reading) → is_full r ≡ true → NotFirst (Fixed Comma) (union_then r.last [])
  last_comma r g = union_comma r.last [] (and_left (some r.last) _ (last_full r g))

  pub text_no_tables : NoList table_then is_full_table always (Fixed Comma) t2 → NoReading ts
  text_no_tables none r g e = none r.tables _ (tables_full r g) refl (last_comma r g) (behind_recursive r e)

  module _ (a b : Lists) (t3 : List Token) (tables : TablesAt a b t2 t3) where
    behind_tables : (r : Reading) → is_full r ≡ true → ts ≡ tokens_of_text r → t3 ≡ union_then r.last []
    behind_tables r g e =
        (listed_one table_then is_full_table always (Fixed Comma) tables_are_one (λ us. refl) tables.value r.tables t3 _ tables.is_good (tables_full r g)
        refl refl tables.ends (last_comma r g) (sym tables.says ∙ behind_recursive r e)).1

    pub text_no_union : NoList query_then is_full_query ends_query (Fixed Union) t3 → NoReading ts
    text_no_union none r g e = none r.last [] (last_full r g) refl (nothing (Fixed Union)) (behind_tables r g e)

    module _ (c : Lists) (rest : List Token) (last : Span) (union : UnionAt b c t3 last rest) where
      pub text_no_end : (rest ≡ [] → ⊥) → NoReading ts
      text_no_end none r g e =
          let p = union.parsed in
          none (unions_are_one p.value r.last rest [] p.is_good (last_full r g) union.ends refl union.no_more (nothing (Fixed Union))
          (sym p.says ∙ behind_tables r g e)).1

      pub text_read : c.tables.items ≡ b.tables.items → rest ≡ [] → ReadingAt c ts last
      text_read stays end =
          let p = union.parsed in
          let here = extends_refl (kept_of c) in
          let reading : Reading = record { tables = tables.value; last = p.value } in
          let shown : reading_in last (kept_of c) ≡ reading = λ i. record { tables = tables.shown (kept_of c) p.grown stays i; last = p.shown (kept_of c) here i } in
          let says : ts ≡ tokens_of_text reading =
          is ∙ ap (λ (u : List Token). Fixed With ∷ u) (recursive ∙ ap (λ (u : List Token). Fixed Recursive ∷ u)
          (tables.says ∙ ap (listed table_then (Fixed Comma) tables.value) (p.says ∙ ap (union_then p.value) end))) in
          record {
            full = ap is_full shown ∙ and_both _ _ tables.is_good p.is_good;
            says = says ∙ sym (ap tokens_of_text shown);
            fits = record { tables = tables.fits (kept_of c) p.grown stays; union = p.fits (kept_of c) here };
          }

-- What was read of a text and kept, so that it stays whatever is kept behind it.
use Rattle.std.specs.Prelude.{◌≡◌, ◌≤◌, ℕ, ◌+◌, Bool, true, List, [], ◌∷◌, ◌++◌, map, length, ⊤}
use Rattle.gm_text.specs.declared.lists.Span.{Span}
use Rattle.sql_read.specs.declared.lists.Lists.{Lists}
use Rattle.sql_read.specs.declared.query.Select.{Select}
use Rattle.sql_read.specs.declared.query.Table.{Table}
use Rattle.sql_read.specs.declared.tokens.Mark.TheVariants.{And, Union, Comma}
use Rattle.sql_read.specs.Tokens.{Token, Fixed}
use Rattle.sql_read.specs.Grammar as said
use Rattle.sql_read.specs.Grammar.{Col, Source, Equation, Query, listed, word_then, col_then, source_then, equation_then, columns_then, where_then, query_then, union_then, body_then, table_then, some, is_full_query, is_full_union, is_full_table, is_full, tokens_of_text}
use Rattle.sql_read.specs.Absent.{NotFirst, any, good_list, ends_query}
use Rattle.sql_read.specs.Kept.{Kept, IsWithin, cols_in, sources_in, equations_in, names_in, query_in, QueryFits, union_in, UnionFits, table_in, TableFits, reading_in, ReadingFits, AllFit}

abbrev pub kept_of : Lists → Kept
kept_of lists = record {
  columns = lists.columns.items;
  froms = lists.froms.items;
  equations = lists.equations.items;
  names = lists.names.items;
  selects = lists.selects.items;
  tables = lists.tables.items;
}

-- a list has grown behind its end
abbrev pub Begins : {A : Type 0} → List A → List A → Type 0
Begins {A = A} xs ys = (more : List A) × (ys ≡ xs ++ more)

-- each list has
pub record Extends (old new : Kept) : Type 0 where
  pub columns : Begins old.columns new.columns
  pub froms : Begins old.froms new.froms
  pub equations : Begins old.equations new.equations
  pub names : Begins old.names new.names
  pub selects : Begins old.selects new.selects
  pub tables : Begins old.tables new.tables

-- tokens are those of a part and the rest, and the lists have gained what says the part, for good
pub record Parsed {A : Type 0} (part : A → List Token → List Token) (good : A → Bool) (view : Kept → A) (Fits : Kept → Type 0)
    (old new : Kept) (ts rest : List Token) : Type 0 where
  pub value : A
  pub is_good : good value ≡ true
  pub says : ts ≡ part value rest
  pub grown : Extends old new
  pub shown : (later : Kept) → Extends new later → view later ≡ value
  pub fits : (later : Kept) → Extends new later → Fits later

-- the entries of all lists
abbrev pub entries : Lists → ℕ
entries lists =
    length lists.columns.items + (length lists.froms.items + (length lists.equations.items
    + (length lists.names.items + (length lists.selects.items + length lists.tables.items))))

-- no more entries were added than tokens passed
abbrev pub IsPaid : Lists → Lists → ℕ → ℕ → Type 0
IsPaid old new before now = (entries new + now ≤ entries old + before) × (now ≤ before)

abbrev pub KeepsTables : Lists → Lists → Type 0
KeepsTables old new = new.tables.items ≡ old.tables.items

abbrev pub KeepsSelects : Lists → Lists → Type 0
KeepsSelects old new = (new.selects.items ≡ old.selects.items) × (new.tables.items ≡ old.tables.items)

pub record ColsAt (old new : Lists) (ts : List Token) (span : Span) (rest : List Token) : Type 0 where
  pub parsed : Parsed (listed col_then (Fixed Comma)) (good_list any) (cols_in span) (λ kept. IsWithin kept.columns span) (kept_of old) (kept_of new) ts rest
  pub ends : NotFirst (Fixed Comma) rest

pub record SourcesAt (old new : Lists) (ts : List Token) (span : Span) (rest : List Token) : Type 0 where
  pub parsed : Parsed (listed source_then (Fixed Comma)) (good_list any) (sources_in span) (λ kept. IsWithin kept.froms span) (kept_of old) (kept_of new) ts rest
  pub ends : NotFirst (Fixed Comma) rest

pub record EquationsAt (old new : Lists) (ts : List Token) (span : Span) (rest : List Token) : Type 0 where
  pub parsed : Parsed (listed equation_then (Fixed And)) (good_list any) (equations_in span) (λ kept. IsWithin kept.equations span) (kept_of old) (kept_of new) ts rest
  pub ends : NotFirst (Fixed And) rest

pub record NamesAt (old new : Lists) (ts : List Token) (span : Span) (rest : List Token) : Type 0 where
  pub parsed : Parsed (listed word_then (Fixed Comma)) (good_list any) (names_in span) (λ kept. IsWithin kept.names span) (kept_of old) (kept_of new) ts rest
  pub ends : NotFirst (Fixed Comma) rest

-- the columns of a select end here
abbrev pub EndsColumns : List Col → List Token → Type 0
EndsColumns [] rest = ⊤
EndsColumns (c ∷ cs) rest = NotFirst (Fixed Comma) rest

pub record ColumnsAt (old new : Lists) (ts : List Token) (span : Span) (rest : List Token) : Type 0 where
  pub parsed : Parsed columns_then any (cols_in span) (λ kept. IsWithin kept.columns span) (kept_of old) (kept_of new) ts rest
  pub ends : EndsColumns parsed.value rest

pub record WhereAt (old new : Lists) (ts : List Token) (span : Span) (rest : List Token) : Type 0 where
  pub parsed : Parsed where_then any (equations_in span) (λ kept. IsWithin kept.equations span) (kept_of old) (kept_of new) ts rest
  pub ends : ends_query rest ≡ true

pub record QueryAt (old new : Lists) (ts : List Token) (s : Select) (rest : List Token) : Type 0 where
  pub parsed : Parsed query_then is_full_query (query_in s) (QueryFits s) (kept_of old) (kept_of new) ts rest
  pub ends : ends_query rest ≡ true

pub record UnionAt (old new : Lists) (ts : List Token) (span : Span) (rest : List Token) : Type 0 where
  pub parsed : Parsed union_then is_full_union (union_in span) (UnionFits span) (kept_of old) (kept_of new) ts rest
  pub ends : ends_query rest ≡ true
  pub no_more : NotFirst (Fixed Union) rest

pub record BodyAt (old new : Lists) (ts : List Token) (span : Span) (rest : List Token) : Type 0 where
  pub parsed : Parsed body_then is_full_union (union_in span) (UnionFits span) (kept_of old) (kept_of new) ts rest

pub record TableAt (old new : Lists) (ts : List Token) (t : Table) (rest : List Token) : Type 0 where
  pub parsed : Parsed table_then is_full_table (table_in t) (TableFits t) (kept_of old) (kept_of new) ts rest

-- all tables are read, and shown as long as no further table is kept
pub record TablesAt (old new : Lists) (ts rest : List Token) : Type 0 where
  pub value : List said.Table
  pub is_good : good_list is_full_table value ≡ true
  pub says : ts ≡ listed table_then (Fixed Comma) value rest
  pub shown : (later : Kept) → Extends (kept_of new) later → later.tables ≡ new.tables.items → map (λ t. table_in t later) later.tables ≡ value
  pub fits : (later : Kept) → Extends (kept_of new) later → later.tables ≡ new.tables.items → AllFit (λ t. TableFits t later) later.tables
  pub ends : NotFirst (Fixed Comma) rest

-- the whole text is read
pub record ReadingAt (new : Lists) (ts : List Token) (last : Span) : Type 0 where
  pub full : is_full (reading_in last (kept_of new)) ≡ true
  pub says : ts ≡ tokens_of_text (reading_in last (kept_of new))
  pub fits : ReadingFits last (kept_of new)

-- What each call of the reader answers: nothing where no such part stands next, or a part that it has passed and kept.
use Rattle.std.specs.Prelude.{◌≡◌, ◌≤◌, ◌+◌, Option, Result, List, IfOk, IfSome, MatchOption, length}
use Rattle.gm_text.specs.declared.lists.Span.{Span}
use Rattle.sql_read.specs.declared.cursor.Cursor.{Cursor}
use Rattle.sql_read.specs.declared.lists.Lists.{Lists}
use Rattle.sql_read.specs.declared.query.Select.{Select}
use Rattle.sql_read.specs.declared.query.Table.{Table}
use Rattle.sql_read.specs.declared.tokens.Mark.TheVariants.{And, Union, Comma}
use Rattle.sql_read.specs.Tokens.{Token, Fixed}
use Rattle.sql_read.specs.Grammar.{word_then, col_then, source_then, equation_then, where_then, query_then, body_then, table_then, is_full_query, is_full_union, is_full_table}
use Rattle.sql_read.specs.View.{heard}
use Rattle.sql_read.specs.Absent.{NoPart, NoGood, NoList, NoColumns, NoReading, any, always, ends_query}
use Rattle.sql_read.specs.Parsed.{entries, IsPaid, ColsAt, ColumnsAt, SourcesAt, EquationsAt, NamesAt, WhereAt, QueryAt, UnionAt, BodyAt, TableAt, TablesAt, ReadingAt}

-- what is left of the tokens
abbrev pub left : Cursor → List Token
left cursor = heard cursor.rest.now

-- a part of the grammar, or nothing where none stands next
abbrev pub PassesPart : {C A : Type 0} → Option C → (A → List Token → List Token) → (C → A) → Cursor → Cursor → Type 0
PassesPart result part view old new = MatchOption result (NoPart part (left old)) (λ c. left old ≡ part (view c) (left new))

-- a part that is kept, or nothing for a reason
abbrev pub Passes : {X E : Type 0} → Result (Option X) E → Type 0 → (X → Type 0) → Type 0
Passes result Nothing Kept = IfOk result (λ found. MatchOption found Nothing Kept)

-- a fact where something was passed
abbrev pub IfPassed : {X E : Type 0} → Result (Option X) E → Type 0 → Type 0
IfPassed result Fact = IfOk result (λ found. IfSome found (λ x. Fact))

-- all entries so far and all tokens that are left are at most 16,777,216
abbrev pub HasRoom : Lists → Cursor → Type 0
HasRoom lists cursor = entries lists + length cursor.rest.now ≤ 16777216

-- no more entries were added than tokens passed
abbrev pub Paid : Lists → Lists → Cursor → Cursor → Type 0
Paid old new before now = IsPaid old new (length before.rest.now) (length now.rest.now)

-- and one token more was passed
abbrev pub PaidMore : Lists → Lists → Cursor → Cursor → Type 0
PaidMore old new before now = IsPaid old new (length before.rest.now) (length now.rest.now + 1)

abbrev pub NoCols : Cursor → Type 0
NoCols before = NoList col_then any always (Fixed Comma) (left before)

abbrev pub ColsPassed : Lists → Lists → Cursor → Cursor → Span → Type 0
ColsPassed old new before now span = ColsAt old new (left before) span (left now)

abbrev pub NoFroms : Cursor → Type 0
NoFroms before = NoList source_then any always (Fixed Comma) (left before)

abbrev pub FromsPassed : Lists → Lists → Cursor → Cursor → Span → Type 0
FromsPassed old new before now span = SourcesAt old new (left before) span (left now)

abbrev pub NoEquations : Cursor → Type 0
NoEquations before = NoList equation_then any always (Fixed And) (left before)

abbrev pub EquationsPassed : Lists → Lists → Cursor → Cursor → Span → Type 0
EquationsPassed old new before now span = EquationsAt old new (left before) span (left now)

abbrev pub NoNames : Cursor → Type 0
NoNames before = NoList word_then any always (Fixed Comma) (left before)

abbrev pub NamesPassed : Lists → Lists → Cursor → Cursor → Span → Type 0
NamesPassed old new before now span = NamesAt old new (left before) span (left now)

abbrev pub NothingSelected : Cursor → Type 0
NothingSelected before = NoColumns (left before)

abbrev pub ColumnsPassed : Lists → Lists → Cursor → Cursor → Span → Type 0
ColumnsPassed old new before now span = ColumnsAt old new (left before) span (left now)

abbrev pub NoWhere : Cursor → Type 0
NoWhere before = NoGood where_then any ends_query (left before)

abbrev pub WherePassed : Lists → Lists → Cursor → Cursor → Span → Type 0
WherePassed old new before now span = WhereAt old new (left before) span (left now)

abbrev pub NoQuery : Cursor → Type 0
NoQuery before = NoGood query_then is_full_query ends_query (left before)

abbrev pub QueryPassed : Lists → Lists → Cursor → Cursor → Select → Type 0
QueryPassed old new before now select = QueryAt old new (left before) select (left now)

abbrev pub NoUnion : Cursor → Type 0
NoUnion before = NoList query_then is_full_query ends_query (Fixed Union) (left before)

abbrev pub UnionPassed : Lists → Lists → Cursor → Cursor → Span → Type 0
UnionPassed old new before now span = UnionAt old new (left before) span (left now)

abbrev pub NoBody : Cursor → Type 0
NoBody before = NoGood body_then is_full_union always (left before)

abbrev pub BodyPassed : Lists → Lists → Cursor → Cursor → Span → Type 0
BodyPassed old new before now span = BodyAt old new (left before) span (left now)

abbrev pub NoTable : Cursor → Type 0
NoTable before = NoGood table_then is_full_table always (left before)

abbrev pub TablePassed : Lists → Lists → Cursor → Cursor → Table → Type 0
TablePassed old new before now table = TableAt old new (left before) table (left now)

abbrev pub NoTables : Cursor → Type 0
NoTables before = NoList table_then is_full_table always (Fixed Comma) (left before)

abbrev pub TablesPassed : Lists → Lists → Cursor → Cursor → Type 0
TablesPassed old new before now = TablesAt old new (left before) (left now)

abbrev pub NoText : Cursor → Type 0
NoText before = NoReading (left before)

abbrev pub TextPassed : Lists → Cursor → Span → Type 0
TextPassed new before last = ReadingAt new (left before) last

-- The pieces of what a text says: the tokens of the grammar, with the blanks that are printed between them.
use Rattle.std.proofs.Common.{ℕ, Bool, true, false, List, [], ◌∷◌}
use Rattle.token_text.specs.Spelled.{Gap, Lexeme}
use Rattle.sql_read.specs.declared.tokens.Mark.{Mark}
use Rattle.sql_read.specs.declared.tokens.Mark.TheVariants.{With, Recursive, As, Select, Distinct, From, Where, And, Union, Open, Close, Comma, Dot, Equals}
use Rattle.sql_read.specs.Tokens.{Fixed, Word, Number}
use Rattle.sql_read.specs.Grammar.{Col, Right, Column, Value, Equation, Source, Query, Table, Reading}
use Rattle.sql_emit.proofs.Spelling.{Pieces}

-- a keyword between two spaces
abbrev pub spaced : Mark → Pieces → Pieces
spaced mark rest = Gap 32 ∷ Lexeme (Fixed mark) ∷ Gap 32 ∷ rest

abbrev pub comma_space : Pieces → Pieces
comma_space rest = Lexeme (Fixed Comma) ∷ Gap 32 ∷ rest

abbrev pub comma_line : Pieces → Pieces
comma_line rest = Lexeme (Fixed Comma) ∷ Gap 10 ∷ rest

abbrev pub union_line : Pieces → Pieces
union_line rest = Gap 10 ∷ Lexeme (Fixed Union) ∷ Gap 10 ∷ rest

-- parts, each behind a separator
abbrev pub repeated_pieces : {A : Type 0} → (A → Pieces → Pieces) → (Pieces → Pieces) → List A → Pieces → Pieces
repeated_pieces part separator [] rest = rest
repeated_pieces part separator (x ∷ xs) rest = separator (part x (repeated_pieces part separator xs rest))

abbrev pub listed_pieces : {A : Type 0} → (A → Pieces → Pieces) → (Pieces → Pieces) → List A → Pieces → Pieces
listed_pieces part separator [] rest = rest
listed_pieces part separator (x ∷ xs) rest = part x (repeated_pieces part separator xs rest)

abbrev pub word_pieces : List ℕ → Pieces → Pieces
word_pieces name rest = Lexeme (Word name) ∷ rest

abbrev pub col_pieces : Col → Pieces → Pieces
col_pieces c rest = Lexeme (Word c.alias) ∷ Lexeme (Fixed Dot) ∷ Lexeme (Word c.column) ∷ rest

abbrev pub source_pieces : Source → Pieces → Pieces
source_pieces s rest = Lexeme (Word s.table) ∷ spaced As (Lexeme (Word s.alias) ∷ rest)

abbrev pub right_pieces : Right → Pieces → Pieces
right_pieces (Column c) rest = col_pieces c rest
right_pieces (Value n) rest = Lexeme (Number n) ∷ rest

abbrev pub equation_pieces : Equation → Pieces → Pieces
equation_pieces e rest = col_pieces e.left (spaced Equals (right_pieces e.right rest))

abbrev pub columns_pieces : List Col → Pieces → Pieces
columns_pieces [] rest = Lexeme (Number 1) ∷ rest
columns_pieces (c ∷ columns) rest = listed_pieces col_pieces comma_space (c ∷ columns) rest

abbrev pub where_pieces : List Equation → Pieces → Pieces
where_pieces [] rest = rest
where_pieces (e ∷ equations) rest = spaced Where (listed_pieces equation_pieces (spaced And) (e ∷ equations) rest)

abbrev pub distinct_pieces : Bool → Pieces → Pieces
distinct_pieces false rest = rest
distinct_pieces true rest = Lexeme (Fixed Distinct) ∷ Gap 32 ∷ rest

abbrev pub from_pieces : Query → Pieces → Pieces
from_pieces q rest = spaced From (listed_pieces source_pieces comma_space q.sources (where_pieces q.equations rest))

abbrev pub query_pieces : Bool → Query → Pieces → Pieces
query_pieces distinct q rest = Lexeme (Fixed Select) ∷ Gap 32 ∷ distinct_pieces distinct (columns_pieces q.columns (from_pieces q rest))

abbrev pub body_pieces : List Query → Pieces → Pieces
body_pieces qs rest = listed_pieces (query_pieces false) (spaced Union) qs rest

abbrev pub table_pieces : Table → Pieces → Pieces
table_pieces t rest =
    Lexeme (Word t.name) ∷ Lexeme (Fixed Open) ∷ listed_pieces word_pieces comma_space t.columns
    (Lexeme (Fixed Close) ∷ spaced As (Lexeme (Fixed Open) ∷ body_pieces t.body (Lexeme (Fixed Close) ∷ rest)))

abbrev pub last_pieces : List Query → Pieces
last_pieces qs = Gap 10 ∷ listed_pieces (query_pieces true) union_line qs (Gap 10 ∷ [])

abbrev pub pieces_of : Reading → Pieces
pieces_of r =
    Lexeme (Fixed With) ∷ Gap 32 ∷ Lexeme (Fixed Recursive) ∷ Gap 10 ∷ listed_pieces table_pieces comma_line r.tables (last_pieces r.last)

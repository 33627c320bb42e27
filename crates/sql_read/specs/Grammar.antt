-- What a SQL text says, and the tokens of what it says. Each production gives its tokens before those that follow it.
--   tokens_of_text reading    the tokens of the whole text that says it
--   is_full reading           no list of the grammar is empty where it must not be
--   said tokens               the tokens without each `DISTINCT` behind a `SELECT`, since rows are sets with it and without
use Rattle.std.specs.Prelude.{ℕ, Bool, true, false, ◌&&◌, List, [], ◌∷◌}
use Rattle.std.specs.List.{list_all}
use Rattle.sql_read.specs.declared.tokens.Mark.TheVariants.{With, Recursive, As, Select, Distinct, From, Where, And, Union, Open, Close, Comma, Dot, Equals}
use Rattle.sql_read.specs.Tokens.{Token, Fixed, Word, Number}

-- a column of the table under an alias
pub record Col : Type 0 where
  pub alias : List ℕ
  pub column : List ℕ

pub data Right : Type 0 where
  Column : (col : Col) → Right
  Value : (value : ℕ) → Right

pub record Equation : Type 0 where
  pub left : Col
  pub right : Right

-- a table under an alias
pub record Source : Type 0 where
  pub table : List ℕ
  pub alias : List ℕ

-- a select; one of `1` has no columns
pub record Query : Type 0 where
  pub columns : List Col
  pub sources : List Source
  pub equations : List Equation

pub record Table : Type 0 where
  pub name : List ℕ
  pub columns : List (List ℕ)
  pub body : List Query

pub record Reading : Type 0 where
  pub tables : List Table
  pub last : List Query

-- { separator part }
abbrev pub repeated : {A : Type 0} → (A → List Token → List Token) → Token → List A → List Token → List Token
repeated part separator [] rest = rest
repeated part separator (x ∷ xs) rest = separator ∷ part x (repeated part separator xs rest)

-- part { separator part }
abbrev pub listed : {A : Type 0} → (A → List Token → List Token) → Token → List A → List Token → List Token
listed part separator [] rest = rest
listed part separator (x ∷ xs) rest = part x (repeated part separator xs rest)

-- Word
abbrev pub word_then : List ℕ → List Token → List Token
word_then name rest = Word name ∷ rest

-- Word "." Word
abbrev pub col_then : Col → List Token → List Token
col_then c rest = Word c.alias ∷ Fixed Dot ∷ Word c.column ∷ rest

-- Word AS Word
abbrev pub source_then : Source → List Token → List Token
source_then s rest = Word s.table ∷ Fixed As ∷ Word s.alias ∷ rest

-- Col | Number
abbrev pub right_then : Right → List Token → List Token
right_then (Column c) rest = col_then c rest
right_then (Value n) rest = Number n ∷ rest

-- Col "=" ( Col | Number )
abbrev pub equation_then : Equation → List Token → List Token
equation_then e rest = col_then e.left (Fixed Equals ∷ right_then e.right rest)

-- "1" | Col { "," Col }
abbrev pub columns_then : List Col → List Token → List Token
columns_then [] rest = Number 1 ∷ rest
columns_then (c ∷ cs) rest = listed col_then (Fixed Comma) (c ∷ cs) rest

-- [ WHERE Eq { AND Eq } ]
abbrev pub where_then : List Equation → List Token → List Token
where_then [] rest = rest
where_then (e ∷ es) rest = Fixed Where ∷ listed equation_then (Fixed And) (e ∷ es) rest

-- FROM Source { "," Source } [ WHERE .. ]
abbrev pub from_then : Query → List Token → List Token
from_then q rest = Fixed From ∷ listed source_then (Fixed Comma) q.sources (where_then q.equations rest)

-- SELECT ( "1" | Col { "," Col } ) FROM ..
abbrev pub query_then : Query → List Token → List Token
query_then q rest = Fixed Select ∷ columns_then q.columns (from_then q rest)

-- Query { UNION Query }
abbrev pub union_then : List Query → List Token → List Token
union_then qs rest = listed query_then (Fixed Union) qs rest

-- AS "(" Union ")"
abbrev pub body_then : List Query → List Token → List Token
body_then qs rest = Fixed As ∷ Fixed Open ∷ union_then qs (Fixed Close ∷ rest)

-- Word "(" Word { "," Word } ")" AS "(" Union ")"
abbrev pub table_then : Table → List Token → List Token
table_then t rest = Word t.name ∷ Fixed Open ∷ listed word_then (Fixed Comma) t.columns (Fixed Close ∷ body_then t.body rest)

-- WITH RECURSIVE Table { "," Table } Union
abbrev pub tokens_of_text : Reading → List Token
tokens_of_text r = Fixed With ∷ Fixed Recursive ∷ listed table_then (Fixed Comma) r.tables (union_then r.last [])

abbrev pub some : {A : Type 0} → List A → Bool
some [] = false
some (x ∷ xs) = true

abbrev pub is_full_query : Query → Bool
is_full_query q = some q.sources

abbrev pub is_full_union : List Query → Bool
is_full_union qs = some qs && list_all is_full_query qs

abbrev pub is_full_table : Table → Bool
is_full_table t = some t.columns && is_full_union t.body

abbrev pub is_full : Reading → Bool
is_full r = (some r.tables && list_all is_full_table r.tables) && is_full_union r.last

-- the tokens without each `DISTINCT` behind a `SELECT`
abbrev pub said : List Token → List Token
said [] = []
said (Fixed Select ∷ Fixed Distinct ∷ ts) = Fixed Select ∷ said ts
said (t ∷ ts) = t ∷ said ts

-- What the code's values are in the words of the grammar.
use Rattle.std.specs.Prelude.{ℕ, Bool, true, false, Option, Some, None, List, map, option_map}
use Rattle.std.specs.Borrow.{Bor}
use Rattle.token_text.specs.Tokens.{HasTokens}
use Rattle.sql_read.specs.Tokens as grammar
use Rattle.sql_read.specs.Grammar as said
use Rattle.sql_read.specs.declared.tokens.Mark.{Mark}
use Rattle.sql_read.specs.declared.tokens.Mark.TheVariants.{Select}
use Rattle.sql_read.specs.declared.tokens.Token.{Token}
use Rattle.sql_read.specs.declared.tokens.Token.TheVariants.{Fixed, Word, Number}
use Rattle.sql_read.specs.declared.query.Col.{Col}
use Rattle.sql_read.specs.declared.query.Right.{Right}
use Rattle.sql_read.specs.declared.query.Right.TheVariants.{Column, Number as Value}
use Rattle.sql_read.specs.declared.query.Equation.{Equation}
use Rattle.sql_read.specs.declared.query.SqlFrom.{SqlFrom}

abbrev pub token_view : Token → grammar.Token
token_view (Fixed mark) = grammar.Fixed mark
token_view (Word name) = grammar.Word name.now
token_view (Number value) = grammar.Number value

abbrev pub tokens_view : List Token → List grammar.Token
tokens_view tokens = map token_view tokens

-- the bytes have these tokens
abbrev pub HasViewed : List ℕ → List Token → Type 0
HasViewed bytes tokens = HasTokens grammar.first bytes (tokens_view tokens)

-- a token or a blank with what follows it
abbrev pub front_view : Option (Option Token × Bor (List ℕ)) → Option (Option grammar.Token × List ℕ)
front_view None = None
front_view (Some x) = Some (option_map token_view x.0, x.1.now)

-- what is left of the tokens says this
abbrev pub heard : List Token → List grammar.Token
heard tokens = said.said (tokens_view tokens)

abbrev pub col_view : Col → said.Col
col_view c = record { alias = c.alias.now; column = c.column.now }

abbrev pub right_view : Right → said.Right
right_view (Column c) = said.Column (col_view c)
right_view (Value n) = said.Value n

abbrev pub equation_view : Equation → said.Equation
equation_view e = record { left = col_view e.left; right = right_view e.right }

abbrev pub source_view : SqlFrom → said.Source
source_view s = record { table = s.table.now; alias = s.alias.now }

abbrev pub name_view : Bor (List ℕ) → List ℕ
name_view name = name.now

abbrev pub is_select : Mark → Bool
is_select Select = true
is_select mark = false

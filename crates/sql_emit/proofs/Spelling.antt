-- How tokens are spelled, and what may follow them.
--   spell t                the bytes of a token
--   may_precede t rest     what is spelled of the token may stand before these bytes
--   Pieces, text           tokens and bytes between them, and what they are spelled as
use Rattle.std.proofs.Common.{ℕ, Bool, true, false, ◌||◌, ◌&&◌, ◌^◌, nat_lt, List, [], ◌∷◌, codes, decimal}
use Rattle.std.specs.Prelude.{not}
use Rattle.gm_text.specs.Name.{is_name_byte}
use Rattle.token_text.specs.Spelled.{Piece, spelled, Apart}
use Rattle.sql_read.specs.declared.tokens.Mark.{Mark}
use Rattle.sql_read.specs.declared.tokens.Mark.TheVariants.{With, Recursive, As, Select, Distinct, From, Where, And, Union, Open, Close, Comma, Dot, Equals}
use Rattle.sql_read.specs.Tokens.{Token, Fixed, Word, Number, is_word, is_blank}

abbrev pub spell_mark : Mark → List ℕ
spell_mark With = codes "WITH"
spell_mark Recursive = codes "RECURSIVE"
spell_mark As = codes "AS"
spell_mark Select = codes "SELECT"
spell_mark Distinct = codes "DISTINCT"
spell_mark From = codes "FROM"
spell_mark Where = codes "WHERE"
spell_mark And = codes "AND"
spell_mark Union = codes "UNION"
spell_mark Open = codes "("
spell_mark Close = codes ")"
spell_mark Comma = codes ","
spell_mark Dot = codes "."
spell_mark Equals = codes "="

abbrev pub spell : Token → List ℕ
spell (Fixed mark) = spell_mark mark
spell (Word name) = name
spell (Number n) = decimal n

abbrev pub is_sign : Mark → Bool
is_sign Open = true
is_sign Close = true
is_sign Comma = true
is_sign Dot = true
is_sign Equals = true
is_sign keyword = false

-- no letter, digit or `_` stands first
abbrev pub ends_run : List ℕ → Bool
ends_run [] = true
ends_run (b ∷ bs) = not (is_name_byte b)

abbrev pub may_precede : Token → List ℕ → Bool
may_precede (Fixed mark) rest = is_sign mark || ends_run rest
may_precede (Word name) rest = is_word name && ends_run rest
may_precede (Number n) rest = nat_lt n (2 ^ 32) && ends_run rest

abbrev pub Pieces : Type 0
Pieces = List (Piece Token)

abbrev pub text : Pieces → List ℕ
text pieces = spelled spell pieces

-- no token runs into what follows it
abbrev pub AreApart : Pieces → Type 0
AreApart pieces = Apart spell is_blank may_precede pieces

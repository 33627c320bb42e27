-- How the tokens of a printed text are spelled, whose predicates all have the empty mark.
--   spell t                the bytes of a token
--   may_precede t rest     what is spelled of the token may stand before these bytes
use Rattle.std.proofs.Common.{ℕ, Bool, true, false, ◌||◌, ◌&&◌, ◌==◌, List, [], ◌∷◌, ◌++◌, codes}
use Rattle.std.specs.Prelude.{not}
use Rattle.std.specs.List.{list_all}
use Rattle.std.specs.Char.{is_ascii_alphabetic}
use Rattle.gm_text.specs.Name.{is_name_byte, is_name}
use Rattle.token_text.specs.Spelled.{Piece}
use Rattle.sparql_read.specs.Tokens.{Token, Word, Mark, IriRef, Predicate, Variable, LeftBrace, RightBrace, Open, Close, Dot, Slash, Bar, Caret, Asterisk, PlusSign, Question}
use Rattle.sparql_read.specs.Tokens.{Keyword, Prefix, Select, Distinct, Ask, Where, Union, is_iri_byte}

-- a word of the language, in capitals
abbrev pub spell_word : Keyword → List ℕ
spell_word Prefix = codes "PREFIX"
spell_word Select = codes "SELECT"
spell_word Distinct = codes "DISTINCT"
spell_word Ask = codes "ASK"
spell_word Where = codes "WHERE"
spell_word Union = codes "UNION"

abbrev pub spell : Token → List ℕ
spell (Word keyword) = spell_word keyword
spell (Mark mark) = mark ++ codes ":"
spell (IriRef bytes) = codes "<" ++ (bytes ++ codes ">")
spell (Predicate mark name) = mark ++ (codes ":" ++ name)
spell (Variable name) = codes "?" ++ name
spell LeftBrace = codes "{"
spell RightBrace = codes "}"
spell Open = codes "("
spell Close = codes ")"
spell Dot = codes "."
spell Slash = codes "/"
spell Bar = codes "|"
spell Caret = codes "^"
spell Asterisk = codes "*"
spell PlusSign = codes "+"
spell Question = codes "?"

-- the bytes begin with none that passes
abbrev pub stops : (ℕ → Bool) → List ℕ → Bool
stops p [] = true
stops p (b ∷ bs) = not (p b)

-- a byte that goes on a word or makes it a mark
abbrev pub is_of_word : ℕ → Bool
is_of_word b = is_name_byte b || (b == 58)

abbrev pub is_empty : List ℕ → Bool
is_empty [] = true
is_empty (b ∷ bs) = false

-- at least one letter, digit or `_`
abbrev pub is_variable : List ℕ → Bool
is_variable [] = false
is_variable (b ∷ bs) = list_all is_name_byte (b ∷ bs)

abbrev pub may_precede : Token → List ℕ → Bool
may_precede (Word keyword) rest = stops is_of_word rest
may_precede (Mark mark) rest = is_empty mark && stops is_ascii_alphabetic rest
may_precede (IriRef bytes) rest = list_all is_iri_byte bytes
may_precede (Predicate mark name) rest = is_empty mark && (is_name name && stops is_name_byte rest)
may_precede (Variable name) rest = is_variable name && stops is_name_byte rest
may_precede Question rest = stops is_name_byte rest
may_precede token rest = true

-- tokens, and bytes between them
abbrev pub Pieces : Type 0
Pieces = List (Piece Token)

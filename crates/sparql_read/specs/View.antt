-- What the reader's tokens stand for.
use Rattle.std.specs.Prelude.{ℕ, Option, Some, None, List, [], ◌∷◌, ◌<◌, length, Bool, false}
use Rattle.std.specs.Char.{is_ascii_alphabetic}
use Rattle.gm_text.specs.Name.{is_name_byte}
use Rattle.token_text.specs.Tokens.{HasNoTokens}
use Rattle.token_text.proofs.TokenLemmas.{Lexed}
use Rattle.sparql_read.specs.Tokens.{Front, first, is_comment_byte, is_iri_byte}
use Rattle.sparql_read.specs.Tokens as said
use Rattle.sparql_read.specs.declared.tokens.Keyword.{Keyword}
use Rattle.sparql_read.specs.declared.tokens.Keyword.TheVariants as words
use Rattle.sparql_read.specs.declared.tokens.Token.{Token}
use Rattle.sparql_read.specs.declared.tokens.Token.TheVariants as tokens
use Rattle.sparql_read.specs.declared.lexer.Kind.{Kind}
use Rattle.sparql_read.specs.declared.lexer.Kind.TheVariants as kinds
use Rattle.sparql_read.specs.declared.lexer.Scanned.{Scanned}
use Rattle.sparql_read.specs.declared.lexer.Scanned.TheVariants as scanned
use denote.Ref.{Bor}

-- a keyword
abbrev pub keyword_view : Keyword → said.Keyword
keyword_view words.Prefix = said.Prefix
keyword_view words.Select = said.Select
keyword_view words.Distinct = said.Distinct
keyword_view words.Ask = said.Ask
keyword_view words.Where = said.Where
keyword_view words.Union = said.Union

-- a token, with the bytes of its names
abbrev pub token_view : Token → said.Token
token_view (tokens.Word keyword) = said.Word (keyword_view keyword)
token_view (tokens.Mark mark) = said.Mark mark.now
token_view (tokens.IriRef bytes) = said.IriRef bytes.now
token_view (tokens.Predicate mark name) = said.Predicate mark.now name.now
token_view (tokens.Variable name) = said.Variable name.now
token_view tokens.LeftBrace = said.LeftBrace
token_view tokens.RightBrace = said.RightBrace
token_view tokens.Open = said.Open
token_view tokens.Close = said.Close
token_view tokens.Dot = said.Dot
token_view tokens.Slash = said.Slash
token_view tokens.Bar = said.Bar
token_view tokens.Caret = said.Caret
token_view tokens.Asterisk = said.Asterisk
token_view tokens.PlusSign = said.PlusSign
token_view tokens.Question = said.Question

-- a keyword that may be missing
abbrev pub keyword_option : Option Keyword → Option said.Keyword
keyword_option None = None
keyword_option (Some keyword) = Some (keyword_view keyword)

-- a token that may be missing
abbrev pub token_option : Option Token → Option said.Token
token_option None = None
token_option (Some token) = Some (token_view token)

-- a gap or a token, and the bytes behind it
abbrev pub front_view : Option (Option Token × Bor (List ℕ)) → Front
front_view None = None
front_view (Some front) = Some (token_option front.0, front.1.now)

-- the bytes of a kind
abbrev pub kind_test : Kind → ℕ → Bool
kind_test kinds.Letter = is_ascii_alphabetic
kind_test kinds.OfName = is_name_byte
kind_test kinds.OfIri = is_iri_byte
kind_test kinds.OfComment = is_comment_byte

-- bytes begin with a byte of a kind
abbrev pub begins_with : Kind → List ℕ → Bool
begins_with kind [] = false
begins_with kind (b ∷ bs) = kind_test kind b

-- bytes begin with a letter
abbrev pub begins_with_letter : List ℕ → Bool
begins_with_letter [] = false
begins_with_letter (b ∷ bs) = is_ascii_alphabetic b

-- bytes begin with a token, have none, or have something else
abbrev pub Scans : List ℕ → List ℕ → Scanned → Type 0
Scans old new (scanned.Next token) = Lexed first old (token_view token ∷ []) new × (length new < length old)
Scans old new scanned.End = Lexed first old [] []
Scans old new scanned.Other = HasNoTokens first old

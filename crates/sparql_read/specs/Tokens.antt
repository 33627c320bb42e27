-- The tokens of a SPARQL text.
--   first b bs    what the byte b and those behind it begin with: a token, or a gap of white space or of a comment
use Rattle.std.specs.Prelude.{ℕ, Bool, true, false, ◌||◌, ◌&&◌, ◌==◌, not, nat_le, if◌then◌else◌, Option, Some, None, List, [], ◌∷◌, length, codes}
use Rattle.std.specs.Char.{is_ascii_alphabetic, to_ascii_lowercase}
use Rattle.gm_text.specs.Name.{is_name_byte, name_most}

-- the words of the language
pub data Keyword : Type 0 where
  Prefix : Keyword
  Select : Keyword
  Distinct : Keyword
  Ask : Keyword
  Where : Keyword
  Union : Keyword

-- a mark is the name before `:` that the text declares; a predicate has such a mark and a local name
pub data Token : Type 0 where
  Word : (keyword : Keyword) → Token
  Mark : (mark : List ℕ) → Token
  IriRef : (bytes : List ℕ) → Token
  Predicate : (mark name : List ℕ) → Token
  Variable : (name : List ℕ) → Token
  LeftBrace : Token
  RightBrace : Token
  Open : Token
  Close : Token
  Dot : Token
  Slash : Token
  Bar : Token
  Caret : Token
  Asterisk : Token
  PlusSign : Token
  Question : Token

-- space, tab, CR and LF
abbrev pub is_white : ℕ → Bool
is_white byte = (byte == 32) || (byte == 9) || (byte == 13) || (byte == 10)

-- a byte that goes on a comment: ASCII, and neither CR nor LF
abbrev pub is_comment_byte : ℕ → Bool
is_comment_byte byte = nat_le byte 127 && not ((byte == 13) || (byte == 10))

-- a sign that no IRI has: < > " { } | ^ ` and the backslash
abbrev pub is_barred : ℕ → Bool
is_barred byte =
    (byte == 60) || (byte == 62) || (byte == 34) || (byte == 123) || (byte == 125) || (byte == 124) || (byte == 94) || (byte == 96) || (byte == 92)

-- from 33 to 126, and none of those signs
abbrev pub is_iri_byte : ℕ → Bool
is_iri_byte byte = nat_le 33 byte && nat_le byte 126 && not (is_barred byte)

-- the longest front of bytes of a kind
abbrev pub run_of : (ℕ → Bool) → List ℕ → List ℕ
run_of is_in [] = []
run_of is_in (b ∷ bs) = if is_in b then b ∷ run_of is_in bs else []

-- the bytes behind it
abbrev pub behind_run : (ℕ → Bool) → List ℕ → List ℕ
behind_run is_in [] = []
behind_run is_in (b ∷ bs) = if is_in b then behind_run is_in bs else b ∷ bs

-- the bytes are the word, in any case
abbrev pub in_any_case : List ℕ → List ℕ → Bool
in_any_case [] [] = true
in_any_case [] (y ∷ word) = false
in_any_case (x ∷ bytes) [] = false
in_any_case (x ∷ bytes) (y ∷ word) = (to_ascii_lowercase x == y) && in_any_case bytes word

-- the keyword that a run of letters is
unfoldable pub keyword_of : List ℕ → Option Keyword
keyword_of run =
    if in_any_case run (codes "prefix") then Some Prefix
    else if in_any_case run (codes "select") then Some Select
    else if in_any_case run (codes "distinct") then Some Distinct
    else if in_any_case run (codes "ask") then Some Ask
    else if in_any_case run (codes "where") then Some Where
    else if in_any_case run (codes "union") then Some Union
    else None

-- the token of one byte
abbrev pub sign_of : ℕ → Option Token
sign_of byte =
    if byte == 123 then Some LeftBrace
    else if byte == 125 then Some RightBrace
    else if byte == 40 then Some Open
    else if byte == 41 then Some Close
    else if byte == 46 then Some Dot
    else if byte == 47 then Some Slash
    else if byte == 124 then Some Bar
    else if byte == 94 then Some Caret
    else if byte == 42 then Some Asterisk
    else if byte == 43 then Some PlusSign
    else None

-- a gap or a token, and the bytes behind it
abbrev pub Front : Type 0
Front = Option (Option Token × List ℕ)

-- this token, if there is one
abbrev pub front_of : Option Token → List ℕ → Front
front_of None rest = None
front_of (Some t) rest = Some (Some t, rest)

-- behind `?`: a run of letters, digits and `_`, and what is behind it; without a run the `?` is a sign
abbrev pub variable_front : List ℕ → List ℕ → Front
variable_front [] rest = Some (Some Question, rest)
variable_front (b ∷ name) rest = Some (Some (Variable (b ∷ name)), rest)

-- behind a name and `:`
abbrev pub mark_front : List ℕ → List ℕ → Front
mark_front mark [] = Some (Some (Mark mark), [])
mark_front mark (b ∷ bs) =
    if is_ascii_alphabetic b then Some (Some (Predicate mark (run_of is_name_byte (b ∷ bs))), behind_run is_name_byte (b ∷ bs))
    else Some (Some (Mark mark), b ∷ bs)

-- behind `<` and a run of an IRI's bytes
abbrev pub iri_front : List ℕ → List ℕ → Front
iri_front run [] = None
iri_front run (b ∷ rest) = if b == 62 then Some (Some (IriRef run), rest) else None

-- a keyword as a token
abbrev pub keyword_token : Option Keyword → Option Token
keyword_token None = None
keyword_token (Some keyword) = Some (Word keyword)

-- bytes that begin with a letter: with a keyword
abbrev pub keyword_front : List ℕ → Front
keyword_front bytes = front_of (keyword_token (keyword_of (run_of is_ascii_alphabetic bytes))) (behind_run is_ascii_alphabetic bytes)

-- bytes that begin with a letter, the run of letters, digits and `_`, and what is behind it: a mark where `:` follows a name
abbrev pub letter_front : List ℕ → List ℕ → List ℕ → Front
letter_front run [] bytes = keyword_front bytes
letter_front run (b ∷ rest) bytes = if (b == 58) && nat_le (length run) name_most then mark_front run rest else keyword_front bytes

-- what a byte and those behind it begin with
abbrev pub first : ℕ → List ℕ → Front
first b bs =
    if is_white b then Some (None, bs)
    else if b == 35 then Some (None, behind_run is_comment_byte bs)
    else if b == 63 then variable_front (run_of is_name_byte bs) (behind_run is_name_byte bs)
    else if b == 60 then iri_front (run_of is_iri_byte bs) (behind_run is_iri_byte bs)
    else if b == 58 then mark_front [] bs
    else if is_ascii_alphabetic b then letter_front (run_of is_name_byte (b ∷ bs)) (behind_run is_name_byte (b ∷ bs)) (b ∷ bs)
    else front_of (sign_of b) bs

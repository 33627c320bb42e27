-- The tokens of a SQL text.
--   Token                  a keyword or a sign, a word, or a number
--   first b bs             what a byte and those behind it begin with: a token or a blank, if either
--   HasSqlTokens bytes ts  the bytes have these tokens
use Rattle.std.specs.Prelude.{◌≡◌, ℕ, ◌^◌, Bool, true, false, if◌then◌else◌, ◌||◌, ◌&&◌, ◌==◌, nat_lt, Option, Some, None, is_none, List, [], ◌∷◌, codes, slice_index}
use Rattle.std.specs.List.{list_all}
use Rattle.std.specs.Char.{is_ascii_lowercase, is_ascii_digit, to_ascii_lowercase}
use Rattle.std.specs.Str.Parse.{digits_value}
use Rattle.gm_text.specs.Name.{is_name_byte}
use Rattle.gm_text.specs.Decimal.{is_canonical}
use Rattle.token_text.specs.Tokens.{HasTokens}
use Rattle.sql_read.specs.declared.tokens.Mark.{Mark}
use Rattle.sql_read.specs.declared.tokens.Mark.TheVariants.{With, Recursive, As, Select, Distinct, From, Where, And, Union, Open, Close, Comma, Dot, Equals}

pub data Token : Type 0 where
  Fixed : (mark : Mark) → Token
  Word : (name : List ℕ) → Token
  Number : (value : ℕ) → Token

-- space, tab, CR and LF
abbrev pub is_blank : ℕ → Bool
is_blank byte = (byte == 32) || (byte == 9) || (byte == 13) || (byte == 10)

-- the letters, digits and `_` at the front
abbrev pub run_of : List ℕ → List ℕ
run_of [] = []
run_of (b ∷ bs) = if is_name_byte b then b ∷ run_of bs else []

-- what follows them
abbrev pub after_run : List ℕ → List ℕ
after_run [] = []
after_run (b ∷ bs) = if is_name_byte b then after_run bs else b ∷ bs

-- a run in any case is a word of small letters
abbrev pub in_any_case : List ℕ → List ℕ → Bool
in_any_case [] [] = true
in_any_case [] (y ∷ word) = false
in_any_case (x ∷ run) [] = false
in_any_case (x ∷ run) (y ∷ word) = (to_ascii_lowercase x == y) && in_any_case run word

abbrev pub keywords : List (List ℕ × Mark)
keywords =
    (codes "with", With) ∷ (codes "recursive", Recursive) ∷ (codes "as", As) ∷ (codes "select", Select) ∷ (codes "distinct", Distinct)
    ∷ (codes "from", From) ∷ (codes "where", Where) ∷ (codes "and", And) ∷ (codes "union", Union) ∷ []

abbrev pub keyword_in : List (List ℕ × Mark) → List ℕ → Option Mark
keyword_in [] run = None
keyword_in (k ∷ ks) run = if in_any_case run k.0 then Some k.1 else keyword_in ks run

-- the keyword that a run is, in any case
unfoldable pub keyword_of : List ℕ → Option Mark
keyword_of run = keyword_in keywords run

-- a lower-case letter, a digit or `_`
abbrev pub is_word_byte : ℕ → Bool
is_word_byte byte = is_ascii_lowercase byte || is_ascii_digit byte || (byte == 95)

-- a lower-case letter and a run of lower-case letters, digits or `_` that isn't a keyword
abbrev pub is_word : List ℕ → Bool
is_word run = is_none (keyword_of run) && is_ascii_lowercase (slice_index run 0) && list_all is_word_byte run

-- a canonical decimal of at most 4,294,967,295
abbrev pub is_number : List ℕ → Bool
is_number run = is_canonical run && nat_lt (digits_value 10 run) (2 ^ 32)

-- the run is a number, and this one
abbrev pub IsNumberOf : List ℕ → ℕ → Type 0
IsNumberOf run n = (is_number run ≡ true) × (n ≡ digits_value 10 run)

-- the token of a run that is no keyword
abbrev pub plain_token_of : List ℕ → Option Token
plain_token_of run = if is_word run then Some (Word run) else if is_number run then Some (Number (digits_value 10 run)) else None

abbrev pub token_from : Option Mark → List ℕ → Option Token
token_from None run = plain_token_of run
token_from (Some keyword) run = Some (Fixed keyword)

-- the token of a run of letters, digits and `_`
abbrev pub token_of : List ℕ → Option Token
token_of run = token_from (keyword_of run) run

-- the sign that a byte is
abbrev pub sign_of : ℕ → Option Mark
sign_of byte =
    if byte == 40 then Some Open
    else if byte == 41 then Some Close
    else if byte == 44 then Some Comma
    else if byte == 46 then Some Dot
    else if byte == 61 then Some Equals
    else None

abbrev pub token_of_sign : Option Mark → Option Token
token_of_sign None = None
token_of_sign (Some sign) = Some (Fixed sign)

-- a token, if there is one, and what follows it
abbrev pub front : Option Token → List ℕ → Option (Option Token × List ℕ)
front None rest = None
front (Some t) rest = Some (Some t, rest)

-- the token of the run that begins with b
abbrev pub run_front : ℕ → List ℕ → Option (Option Token × List ℕ)
run_front b bs = front (token_of (b ∷ run_of bs)) (after_run bs)

-- a blank, a run as long as possible, or a sign
abbrev pub first : ℕ → List ℕ → Option (Option Token × List ℕ)
first b bs =
    if is_blank b then Some (None, bs)
    else if is_name_byte b then run_front b bs
    else front (token_of_sign (sign_of b)) bs

abbrev pub HasSqlTokens : List ℕ → List Token → Type 0
HasSqlTokens = HasTokens first

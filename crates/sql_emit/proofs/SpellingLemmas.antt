-- What is spelled of a token, before what may follow it, is cut off as that token.
use Rattle.std.proofs.Common.{◌≡◌, ℕ, ◌<◌, ◌^◌, Bool, true, false, ◌||◌, ◌&&◌, nat_lt, List, [], ◌∷◌, ◌++◌, Option, Some, None, codes, decimal, refl, ap, arith}
use Rattle.std.specs.Prelude.{not, is_none, slice_index, ◌==◌}
use Rattle.std.specs.List.{list_all}
use Rattle.std.specs.Char.{is_ascii_digit, is_ascii_lowercase, to_ascii_lowercase}
use Rattle.std.specs.Str.Parse.{digits_value}
use Rattle.std.proofs.lemmas.Bool.{and_parts}
use Rattle.std.proofs.lemmas.Bool.Decides.{nat_tests}
use Rattle.gm_text.specs.Name.{is_name_byte}
use Rattle.gm_text.proofs.DecimalLemmas.{decimal_is_canonical, digits_value_decimal}
use Rattle.token_text.specs.Spelled.{Cuts, CutsOff}
use Rattle.sql_read.specs.declared.tokens.Mark.{Mark}
use Rattle.sql_read.specs.declared.tokens.Mark.TheVariants.{With, Recursive, As, Select, Distinct, From, Where, And, Union, Open, Close, Comma, Dot, Equals}
use Rattle.sql_read.specs.Tokens.{Token, Fixed, Word, Number, is_blank, run_of, after_run, in_any_case, keywords, keyword_in, keyword_of, is_word_byte, is_word, is_number, token_of}
use Rattle.sql_read.specs.Tokens.{plain_token_of, first}
use Rattle.sql_read.proofs.TokenLemmas.{number_fits}
use Rattle.sql_emit.proofs.Spelling.{spell, spell_mark, ends_run, is_sign, may_precede}

pub list_all_weaker : {A : Type 0} → (p q : A → Bool) → ((x : A) → p x ≡ true → q x ≡ true) → (xs : List A) → list_all p xs ≡ true → list_all q xs ≡ true
list_all_weaker p q weaker [] all = refl
list_all_weaker p q weaker (x ∷ xs) all =
    let parts = and_parts (p x) (list_all p xs) all in rw (weaker x parts.0) (list_all_weaker p q weaker xs parts.1)

-- ---- runs

not_true : (a : Bool) → not a ≡ true → a ≡ false
not_true true e = cc
not_true false e = refl

run-none : (rest : List ℕ) → ends_run rest ≡ true → run_of rest ≡ []
run-none [] ends = refl
run-none (b ∷ rest) ends = rw (not_true (is_name_byte b) ends) refl

after-none : (rest : List ℕ) → ends_run rest ≡ true → after_run rest ≡ rest
after-none [] ends = refl
after-none (b ∷ rest) ends = rw (not_true (is_name_byte b) ends) refl

run-all : (w rest : List ℕ) → list_all is_name_byte w ≡ true → ends_run rest ≡ true → run_of (w ++ rest) ≡ w
run-all [] rest all ends = run-none rest ends
run-all (b ∷ w) rest all ends =
    let parts = and_parts (is_name_byte b) (list_all is_name_byte w) all in
    rw parts.0 (ap (λ (bs : List ℕ). b ∷ bs) (run-all w rest parts.1 ends))

after-all : (w rest : List ℕ) → list_all is_name_byte w ≡ true → ends_run rest ≡ true → after_run (w ++ rest) ≡ rest
after-all [] rest all ends = after-none rest ends
after-all (b ∷ w) rest all ends =
    let parts = and_parts (is_name_byte b) (list_all is_name_byte w) all in rw parts.0 (after-all w rest parts.1 ends)

not_blank : (b : ℕ) → is_name_byte b ≡ true → is_blank b ≡ false
not_blank b name = grind (arith, nat_tests)

no_bytes : (t : Token) → token_of [] ≡ Some t → ⊥
unfolding keyword_of
no_bytes t e = cc

run_cuts : (w rest : List ℕ) (t : Token) → list_all is_name_byte w ≡ true → ends_run rest ≡ true → token_of w ≡ Some t → CutsOff first (w ++ rest) t rest
run_cuts [] rest t all ends is = absurd (no_bytes t is)
run_cuts (b ∷ w) rest t all ends is =
    let parts = and_parts (is_name_byte b) (list_all is_name_byte w) all in
    record {
      head = b;
      tail = w ++ rest;
      is = refl;
      cut = rw (not_blank b parts.0, parts.0, run-all w rest parts.1 ends, after-all w rest parts.1 ends, is) refl;
    }

-- ---- words

none_is : {A : Type 0} → (o : Option A) → is_none o ≡ true → o ≡ None
none_is None e = refl
none_is (Some x) e = cc

name_of_word : (b : ℕ) → is_word_byte b ≡ true → is_name_byte b ≡ true
name_of_word b word = grind (arith, nat_tests)

word_cuts : (w rest : List ℕ) → is_word w ≡ true → ends_run rest ≡ true → CutsOff first (w ++ rest) (Word w) rest
word_cuts w rest word ends =
    let parts = and_parts (is_none (keyword_of w) && is_ascii_lowercase (slice_index w 0)) (list_all is_word_byte w) word in
    let keyword = none_is (keyword_of w) (and_parts (is_none (keyword_of w)) (is_ascii_lowercase (slice_index w 0)) parts.0).0 in
    let plain : plain_token_of w ≡ Some (Word w) = rw word refl in
    run_cuts w rest (Word w) (list_all_weaker is_word_byte is_name_byte name_of_word w parts.1) ends (rw keyword plain)

-- ---- numbers

abbrev begins_small : List ℕ × Mark → Bool
begins_small k = is_ascii_lowercase (slice_index k.0 0)

no_digit : (b y : ℕ) → is_ascii_digit b ≡ true → is_ascii_lowercase y ≡ true → (to_ascii_lowercase b == y) ≡ false
no_digit b y digit small = grind (arith, nat_tests)

other_case : (b : ℕ) (bs word : List ℕ) → is_ascii_digit b ≡ true → is_ascii_lowercase (slice_index word 0) ≡ true → in_any_case (b ∷ bs) word ≡ false
other_case b bs [] digit small = refl
other_case b bs (y ∷ word) digit small = rw (no_digit b y digit small) refl

no_keyword_in : (ks : List (List ℕ × Mark)) (b : ℕ) (bs : List ℕ) → is_ascii_digit b ≡ true → list_all begins_small ks ≡ true → keyword_in ks (b ∷ bs) ≡ None
no_keyword_in [] b bs digit small = refl
no_keyword_in (k ∷ ks) b bs digit small =
    let parts = and_parts (begins_small k) (list_all begins_small ks) small in
    rw (other_case b bs k.0 digit parts.0) (no_keyword_in ks b bs digit parts.1)

no_keyword : (b : ℕ) (bs : List ℕ) → is_ascii_digit b ≡ true → keyword_of (b ∷ bs) ≡ None
unfolding keyword_of
no_keyword b bs digit = no_keyword_in keywords b bs digit refl

digit_small : (b : ℕ) → is_ascii_digit b ≡ true → is_ascii_lowercase b ≡ false
digit_small b digit = grind (arith, nat_tests)

digits_of : (n : ℕ) → n < 2 ^ 64 → list_all is_ascii_digit (decimal n) ≡ true
digits_of n small = (and_parts _ (list_all is_ascii_digit (decimal n)) (decimal_is_canonical n small)).1

no_number : is_number [] ≡ true → ⊥
no_number e = cc

number_token : (w : List ℕ) (n : ℕ) → list_all is_ascii_digit w ≡ true → is_number w ≡ true → digits_value 10 w ≡ n → token_of w ≡ Some (Number n)
number_token [] n digits number value = absurd (no_number number)
number_token (b ∷ w) n digits number value =
    let digit = (and_parts (is_ascii_digit b) (list_all is_ascii_digit w) digits).0 in
    let keyword = no_keyword b w digit in
    let word : is_word (b ∷ w) ≡ false = rw (keyword, digit_small b digit) refl in
    rw (keyword, word, number) (ap (λ (m : ℕ). Some (Number m)) value)

name_of_digit : (b : ℕ) → is_ascii_digit b ≡ true → is_name_byte b ≡ true
name_of_digit b digit = grind (arith, nat_tests)

lt_true : (n m : ℕ) → nat_lt n m ≡ true → n < m
lt_true n m e = grind (arith, nat_tests)

number_cuts : (n : ℕ) (rest : List ℕ) → nat_lt n (2 ^ 32) ≡ true → ends_run rest ≡ true → CutsOff first (decimal n ++ rest) (Number n) rest
number_cuts n rest below ends =
    let small : n < 2 ^ 32 = lt_true n (2 ^ 32) below in
    let wide : n < 2 ^ 64 = omega (arith, small) in
    let digits = digits_of n wide in
    run_cuts (decimal n) rest (Number n) (list_all_weaker is_ascii_digit is_name_byte name_of_digit (decimal n) digits) ends
    (number_token (decimal n) n digits (number_fits (decimal n) n wide refl small) (digits_value_decimal n wide))

-- ---- keywords and signs

mark_cuts : (mark : Mark) (rest : List ℕ) → (is_sign mark || ends_run rest) ≡ true → CutsOff first (spell_mark mark ++ rest) (Fixed mark) rest
unfolding keyword_of
mark_cuts With rest ends = run_cuts (codes "WITH") rest (Fixed With) refl ends refl
mark_cuts Recursive rest ends = run_cuts (codes "RECURSIVE") rest (Fixed Recursive) refl ends refl
mark_cuts As rest ends = run_cuts (codes "AS") rest (Fixed As) refl ends refl
mark_cuts Select rest ends = run_cuts (codes "SELECT") rest (Fixed Select) refl ends refl
mark_cuts Distinct rest ends = run_cuts (codes "DISTINCT") rest (Fixed Distinct) refl ends refl
mark_cuts From rest ends = run_cuts (codes "FROM") rest (Fixed From) refl ends refl
mark_cuts Where rest ends = run_cuts (codes "WHERE") rest (Fixed Where) refl ends refl
mark_cuts And rest ends = run_cuts (codes "AND") rest (Fixed And) refl ends refl
mark_cuts Union rest ends = run_cuts (codes "UNION") rest (Fixed Union) refl ends refl
mark_cuts Open rest ends = record { head = 40; tail = rest; is = refl; cut = refl }
mark_cuts Close rest ends = record { head = 41; tail = rest; is = refl; cut = refl }
mark_cuts Comma rest ends = record { head = 44; tail = rest; is = refl; cut = refl }
mark_cuts Dot rest ends = record { head = 46; tail = rest; is = refl; cut = refl }
mark_cuts Equals rest ends = record { head = 61; tail = rest; is = refl; cut = refl }

token_cuts : (t : Token) (rest : List ℕ) → may_precede t rest ≡ true → CutsOff first (spell t ++ rest) t rest
token_cuts (Fixed mark) rest may = mark_cuts mark rest may
token_cuts (Word name) rest may = let parts = and_parts (is_word name) (ends_run rest) may in word_cuts name rest parts.0 parts.1
token_cuts (Number n) rest may = let parts = and_parts (nat_lt n (2 ^ 32)) (ends_run rest) may in number_cuts n rest parts.0 parts.1

blank_cuts : (b : ℕ) (bs : List ℕ) → is_blank b ≡ true → first b bs ≡ Some (None, bs)
blank_cuts b bs blank = rw blank refl

pub spelling_is_read : Cuts first spell is_blank may_precede
spelling_is_read = record { gaps = blank_cuts; tokens = token_cuts }

-- ---- names with a number

word_of_digit : (b : ℕ) → is_ascii_digit b ≡ true → is_word_byte b ≡ true
word_of_digit b digit = grind (arith, nat_tests)

-- a small letter that begins no keyword, and a decimal
pub numbered_is_word : (letter n : ℕ) → ((bs : List ℕ) → keyword_of (letter ∷ bs) ≡ None) → is_ascii_lowercase letter ≡ true
    → n < 2 ^ 64 → is_word (letter ∷ decimal n) ≡ true
numbered_is_word letter n none small below =
    rw (none (decimal n), small) (list_all_weaker is_ascii_digit is_word_byte word_of_digit (decimal n) (digits_of n below))

no_t : (bs : List ℕ) → keyword_of (116 ∷ bs) ≡ None
unfolding keyword_of
no_t bs = refl

no_c : (bs : List ℕ) → keyword_of (99 ∷ bs) ≡ None
unfolding keyword_of
no_c bs = refl

pub table_is_word : (n : ℕ) → n < 2 ^ 64 → is_word (116 ∷ decimal n) ≡ true
table_is_word n below = numbered_is_word 116 n no_t refl below

pub alias_is_word : (n : ℕ) → n < 2 ^ 64 → is_word (99 ∷ decimal n) ≡ true
alias_is_word n below = numbered_is_word 99 n no_c refl below

-- What is spelled of a token, before what it may precede, is cut off as that token.
use Rattle.std.proofs.Common.{◌≡◌, ℕ, Bool, true, false, ◌||◌, ◌&&◌, ◌==◌, List, [], ◌∷◌, ◌++◌, Some, codes, refl, ap, ◌∙◌, arith}
use Rattle.std.specs.Prelude.{not}
use Rattle.std.specs.List.{list_all}
use Rattle.std.specs.Char.{is_ascii_alphabetic}
use Rattle.std.proofs.lemmas.Bool.{and_parts}
use Rattle.std.proofs.lemmas.Bool.Decides.{nat_tests}
use Rattle.std.proofs.lemmas.List.{append_assoc}
use Rattle.gm_text.specs.Name.{is_name_byte, is_name}
use Rattle.token_text.specs.Spelled.{Cuts, CutsOff}
use Rattle.sparql_read.specs.Tokens.{Token, Word, Mark, IriRef, Predicate, Variable, LeftBrace, RightBrace, Open, Close, Dot, Slash, Bar, Caret, Asterisk, PlusSign, Question}
use Rattle.sparql_read.specs.Tokens.{Keyword, Prefix, Select, Distinct, Ask, Where, Union, is_iri_byte, is_white, run_of, behind_run, first}
use Rattle.sparql_read.specs.Tokens.{keyword_of, keyword_token, keyword_front, letter_front, mark_front, variable_front, iri_front, front_of}
use Rattle.sparql_emit.proofs.Spelling.{spell, spell_word, stops, is_of_word, is_empty, is_variable, may_precede}

not_true : (a : Bool) → not a ≡ true → a ≡ false
not_true true e = cc
not_true false e = refl

nor_left : (a b : Bool) → not (a || b) ≡ true → a ≡ false
nor_left true b e = cc
nor_left false b e = refl

nor_right : (a b : Bool) → not (a || b) ≡ true → b ≡ false
nor_right true b e = cc
nor_right false b e = not_true b e

-- a run of bytes that pass, before one that doesn't
module _ (p : ℕ → Bool) where
  run-none : (rest : List ℕ) → stops p rest ≡ true → run_of p rest ≡ []
  run-none [] stop = refl
  run-none (b ∷ rest) stop = rw (not_true (p b) stop) refl

  behind-none : (rest : List ℕ) → stops p rest ≡ true → behind_run p rest ≡ rest
  behind-none [] stop = refl
  behind-none (b ∷ rest) stop = rw (not_true (p b) stop) refl

  run-all : (w rest : List ℕ) → list_all p w ≡ true → stops p rest ≡ true → run_of p (w ++ rest) ≡ w
  run-all [] rest all stop = run-none rest stop
  run-all (b ∷ w) rest all stop =
      let parts = and_parts (p b) (list_all p w) all in
      rw parts.0 (ap (λ (bs : List ℕ). b ∷ bs) (run-all w rest parts.1 stop))

  behind-all : (w rest : List ℕ) → list_all p w ≡ true → stops p rest ≡ true → behind_run p (w ++ rest) ≡ rest
  behind-all [] rest all stop = behind-none rest stop
  behind-all (b ∷ w) rest all stop =
      let parts = and_parts (p b) (list_all p w) all in
      rw parts.0 (behind-all w rest parts.1 stop)

-- ---- words

letter_of_name : (b : ℕ) → is_name_byte b ≡ false → is_ascii_alphabetic b ≡ false
letter_of_name b none = grind (arith, nat_tests)

no_name : (rest : List ℕ) → stops is_of_word rest ≡ true → stops is_name_byte rest ≡ true
no_name [] stop = refl
no_name (b ∷ rest) stop = ap not (nor_left (is_name_byte b) (b == 58) stop)

no_letter : (rest : List ℕ) → stops is_of_word rest ≡ true → stops is_ascii_alphabetic rest ≡ true
no_letter [] stop = refl
no_letter (b ∷ rest) stop = ap not (letter_of_name b (nor_left (is_name_byte b) (b == 58) stop))

no_colon : (run rest bytes : List ℕ) → stops is_of_word rest ≡ true → letter_front run rest bytes ≡ keyword_front bytes
no_colon run [] bytes stop = refl
no_colon run (b ∷ rest) bytes stop = rw (nor_right (is_name_byte b) (b == 58) stop) refl

-- letters that are a keyword, before no byte of a word
word_front : (w rest : List ℕ) (keyword : Keyword) → list_all is_name_byte w ≡ true → list_all is_ascii_alphabetic w ≡ true → keyword_of w ≡ Some keyword → stops is_of_word rest ≡ true
    → letter_front (run_of is_name_byte (w ++ rest)) (behind_run is_name_byte (w ++ rest)) (w ++ rest) ≡ Some (Some (Word keyword), rest)
word_front w rest keyword name letters is stop =
    ap (λ (bs : List ℕ). letter_front (run_of is_name_byte (w ++ rest)) bs (w ++ rest)) (behind-all is_name_byte w rest name (no_name rest stop))
    ∙ (no_colon (run_of is_name_byte (w ++ rest)) rest (w ++ rest) stop
    ∙ ((λ i. front_of (keyword_token (keyword_of (run-all is_ascii_alphabetic w rest letters (no_letter rest stop) i)))
    (behind-all is_ascii_alphabetic w rest letters (no_letter rest stop) i))
    ∙ ap (λ (k : _). front_of (keyword_token k) rest) is))

-- each word is that keyword
keyword_is : (keyword : Keyword) → keyword_of (spell_word keyword) ≡ Some keyword
unfolding keyword_of
keyword_is Prefix = refl
keyword_is Select = refl
keyword_is Distinct = refl
keyword_is Ask = refl
keyword_is Where = refl
keyword_is Union = refl

word_cuts : (keyword : Keyword) (rest : List ℕ) → stops is_of_word rest ≡ true → CutsOff first (spell_word keyword ++ rest) (Word keyword) rest
word_cuts Prefix rest stop = record { head = 80; tail = codes "REFIX" ++ rest; is = refl; cut = word_front (codes "PREFIX") rest Prefix refl refl (keyword_is Prefix) stop }
word_cuts Select rest stop = record { head = 83; tail = codes "ELECT" ++ rest; is = refl; cut = word_front (codes "SELECT") rest Select refl refl (keyword_is Select) stop }
word_cuts Distinct rest stop = record { head = 68; tail = codes "ISTINCT" ++ rest; is = refl; cut = word_front (codes "DISTINCT") rest Distinct refl refl (keyword_is Distinct) stop }
word_cuts Ask rest stop = record { head = 65; tail = codes "SK" ++ rest; is = refl; cut = word_front (codes "ASK") rest Ask refl refl (keyword_is Ask) stop }
word_cuts Where rest stop = record { head = 87; tail = codes "HERE" ++ rest; is = refl; cut = word_front (codes "WHERE") rest Where refl refl (keyword_is Where) stop }
word_cuts Union rest stop = record { head = 85; tail = codes "NION" ++ rest; is = refl; cut = word_front (codes "UNION") rest Union refl refl (keyword_is Union) stop }

-- ---- marks, predicates, variables and IRIs

mark_cuts : (mark rest : List ℕ) → is_empty mark ≡ true → stops is_ascii_alphabetic rest ≡ true → CutsOff first (spell (Mark mark) ++ rest) (Mark mark) rest
mark_cuts [] rest empty stop = record { head = 58; tail = rest; is = refl; cut = alone rest stop }
  where
    alone : (rest : List ℕ) → stops is_ascii_alphabetic rest ≡ true → mark_front [] rest ≡ Some (Some (Mark []), rest)
    alone [] stop = refl
    alone (b ∷ rest) stop = rw (not_true (is_ascii_alphabetic b) stop) refl
mark_cuts (b ∷ mark) rest empty stop = absurd (no empty)
  where
    no : ◌≡◌ {A = Bool} false true → ⊥
    no e = cc

named_front : (name rest : List ℕ) → is_name name ≡ true → stops is_name_byte rest ≡ true → mark_front [] (name ++ rest) ≡ Some (Some (Predicate [] name), rest)
named_front [] rest named stop = absurd (no named)
  where
    no : is_name [] ≡ true → ⊥
    no e = cc
named_front (b ∷ name) rest named stop =
    let parts = and_parts _ (list_all is_name_byte (b ∷ name)) named in
    rw ((and_parts _ (is_ascii_alphabetic b) parts.0).1)
    (λ i. Some (Some (Predicate [] (run-all is_name_byte (b ∷ name) rest parts.1 stop i)), behind-all is_name_byte (b ∷ name) rest parts.1 stop i))

predicate_cuts : (mark name rest : List ℕ) → is_empty mark ≡ true → is_name name ≡ true → stops is_name_byte rest ≡ true
    → CutsOff first (spell (Predicate mark name) ++ rest) (Predicate mark name) rest
predicate_cuts [] name rest empty named stop = record { head = 58; tail = name ++ rest; is = refl; cut = named_front name rest named stop }
predicate_cuts (b ∷ mark) name rest empty named stop = absurd (no empty)
  where
    no : ◌≡◌ {A = Bool} false true → ⊥
    no e = cc

variable_cuts : (name rest : List ℕ) → is_variable name ≡ true → stops is_name_byte rest ≡ true → CutsOff first (spell (Variable name) ++ rest) (Variable name) rest
variable_cuts [] rest some stop = absurd (no some)
  where
    no : ◌≡◌ {A = Bool} false true → ⊥
    no e = cc
variable_cuts (b ∷ name) rest some stop = record {
  head = 63;
  tail = b ∷ (name ++ rest);
  is = refl;
  cut = λ i. variable_front (run-all is_name_byte (b ∷ name) rest some stop i) (behind-all is_name_byte (b ∷ name) rest some stop i);
}

question_cuts : (rest : List ℕ) → stops is_name_byte rest ≡ true → CutsOff first (spell Question ++ rest) Question rest
question_cuts rest stop = record {
  head = 63;
  tail = rest;
  is = refl;
  cut = λ i. variable_front (run-none is_name_byte rest stop i) (behind-none is_name_byte rest stop i);
}

iri_cuts : (bytes rest : List ℕ) → list_all is_iri_byte bytes ≡ true → CutsOff first (spell (IriRef bytes) ++ rest) (IriRef bytes) rest
iri_cuts bytes rest all = record {
  head = 60;
  tail = (bytes ++ codes ">") ++ rest;
  is = refl;
  cut = (λ i. iri_front (run_of is_iri_byte (append_assoc bytes (codes ">") rest i)) (behind_run is_iri_byte (append_assoc bytes (codes ">") rest i)))
      ∙ (λ i. iri_front (run-all is_iri_byte bytes (62 ∷ rest) all refl i) (behind-all is_iri_byte bytes (62 ∷ rest) all refl i));
}

token_cuts : (t : Token) (rest : List ℕ) → may_precede t rest ≡ true → CutsOff first (spell t ++ rest) t rest
token_cuts (Word keyword) rest may = word_cuts keyword rest may
token_cuts (Mark mark) rest may = let parts = and_parts (is_empty mark) _ may in mark_cuts mark rest parts.0 parts.1
token_cuts (IriRef bytes) rest may = iri_cuts bytes rest may
token_cuts (Predicate mark name) rest may =
    let parts = and_parts (is_empty mark) (is_name name && stops is_name_byte rest) may in
    let two = and_parts (is_name name) _ parts.1 in
    predicate_cuts mark name rest parts.0 two.0 two.1
token_cuts (Variable name) rest may = let parts = and_parts (is_variable name) _ may in variable_cuts name rest parts.0 parts.1
token_cuts LeftBrace rest may = record { head = 123; tail = rest; is = refl; cut = refl }
token_cuts RightBrace rest may = record { head = 125; tail = rest; is = refl; cut = refl }
token_cuts Open rest may = record { head = 40; tail = rest; is = refl; cut = refl }
token_cuts Close rest may = record { head = 41; tail = rest; is = refl; cut = refl }
token_cuts Dot rest may = record { head = 46; tail = rest; is = refl; cut = refl }
token_cuts Slash rest may = record { head = 47; tail = rest; is = refl; cut = refl }
token_cuts Bar rest may = record { head = 124; tail = rest; is = refl; cut = refl }
token_cuts Caret rest may = record { head = 94; tail = rest; is = refl; cut = refl }
token_cuts Asterisk rest may = record { head = 42; tail = rest; is = refl; cut = refl }
token_cuts PlusSign rest may = record { head = 43; tail = rest; is = refl; cut = refl }
token_cuts Question rest may = question_cuts rest may

pub spelling_cuts : Cuts first spell is_white may_precede
spelling_cuts = record { gaps = λ b bs white. rw white refl; tokens = token_cuts }

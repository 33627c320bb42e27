-- Runs of letters, digits and `_`, and the decimals among them.
use Rattle.std.proofs.Common.{◌≡◌, ℕ, ◌+◌, ◌-◌, ◌<◌, ◌≤◌, ◌^◌, Bool, true, false, List, [], ◌∷◌, ◌++◌, length, take, decimal, Option, None, Some, option_to_list, refl, sym, ap, subst, ◌∙◌, arith}
use Rattle.std.proofs.lemmas.Bool.Decides.{nat_tests}
use Rattle.std.proofs.lemmas.List.{length-append, take_at}
use Rattle.std.specs.Str.Parse.{digits_value}
use Rattle.gm_text.specs.Decimal.{is_canonical, IsCanonical}
use Rattle.gm_text.specs.Name.{is_name_byte}
use Rattle.gm_text.proofs.DecimalLemmas.{decimal_is_canonical, digits_value_decimal}
use Rattle.token_text.specs.Tokens.{HasTokens, HasNoTokens}
use Rattle.token_text.proofs.TokenLemmas.{Lexed, lex_step, lex_fail, lex_end}
use Rattle.sql_read.specs.Tokens.{Token, run_of, after_run, run_front, token_of, is_number, front, first}

-- a run and what follows it are all the bytes
run_whole : (bs : List ℕ) → run_of bs ++ after_run bs ≡ bs
run_whole [] = refl
run_whole (b ∷ bs) = by (is_name_byte b) refl (run_whole bs)
  where
    by : (t : Bool) → is_name_byte b ≡ t → run_of bs ++ after_run bs ≡ bs → run_of (b ∷ bs) ++ after_run (b ∷ bs) ≡ b ∷ bs
    by true e same = rw e (ap (λ (x : List ℕ). b ∷ x) same)
    by false e same = rw e refl

-- the bytes before what follows a run are the run
pub run_taken : (bytes after more : List ℕ) (b : ℕ) → after ≡ after_run more → bytes ≡ b ∷ more → take (length bytes - length after) bytes ≡ b ∷ run_of more
run_taken bytes after more b is whole =
    let same : bytes ≡ (b ∷ run_of more) ++ after = whole ∙ ap (λ (x : List ℕ). b ∷ x) (sym (run_whole more) ∙ ap (λ (x : List ℕ). run_of more ++ x) (sym is)) in
    let counted : length bytes ≡ length (b ∷ run_of more) + length after = ap length same ∙ length-append (b ∷ run_of more) after in
    ap (take (length bytes - length after)) same ∙ take_at (b ∷ run_of more) after (length bytes - length after) (omega (arith, counted))

pub number_none : (run : List ℕ) → is_canonical run ≡ false → is_number run ≡ false
number_none run h = rw h refl

number_big : (run : List ℕ) → 2 ^ 32 ≤ digits_value 10 run → is_number run ≡ false
number_big run h = grind (arith, nat_tests)

pub number_value : (run : List ℕ) (n : ℕ) → n < 2 ^ 64 → run ≡ decimal n → digits_value 10 run ≡ n
number_value run n small e = ap (digits_value 10) e ∙ digits_value_decimal n small

pub number_large : (run : List ℕ) (n : ℕ) → n < 2 ^ 64 → run ≡ decimal n → (n < 2 ^ 32 → ⊥) → is_number run ≡ false
number_large run n small e large = number_big run (let value = number_value run n small e in omega (arith, value, large))

pub number_fits : (run : List ℕ) (n : ℕ) → n < 2 ^ 64 → run ≡ decimal n → n < 2 ^ 32 → is_number run ≡ true
number_fits run n small e fits =
    let value = number_value run n small e in
    let canonical : is_canonical run ≡ true = subst IsCanonical (sym e) (decimal_is_canonical n small) in
    grind (arith, nat_tests)

pub front_is : (found : Option Token) (bytes after more : List ℕ) (b : ℕ) → after ≡ after_run more → bytes ≡ b ∷ more
    → found ≡ token_of (take (length bytes - length after) bytes) → front found after ≡ run_front b more
front_is found bytes after more b is whole e =
    let token : found ≡ token_of (b ∷ run_of more) = e ∙ ap token_of (run_taken bytes after more b is whole) in
    λ i. front (token i) (is i)

-- the loop over the bytes, with what stands at the front of the rest
module _ (text : List ℕ) (read : List Token) where
  pub lex_none : (rest : List ℕ) → 0 < length rest → ((b : ℕ) (bs : List ℕ) → rest ≡ b ∷ bs → None ≡ first b bs)
      → Lexed first text read rest → HasNoTokens first text
  lex_none [] some is l = absurd (omega (arith, some))
  lex_none (b ∷ bs) some is l = lex_fail first text read b bs (sym (is b bs refl)) l

  pub lex_next : (rest more : List ℕ) (x : Option Token) → 0 < length rest → ((b : ℕ) (bs : List ℕ) → rest ≡ b ∷ bs → Some (x, more) ≡ first b bs)
      → Lexed first text read rest → Lexed first text (read ++ option_to_list x) more
  lex_next [] more x some is l = absurd (omega (arith, some))
  lex_next (b ∷ bs) more x some is l = lex_step first text read b bs more x (sym (is b bs refl)) l

  pub lex_all : (rest : List ℕ) → length rest ≡ 0 → Lexed first text read rest → HasTokens first text read
  lex_all [] none l = lex_end first text read l
  lex_all (b ∷ bs) none l = absurd (omega (arith, none))

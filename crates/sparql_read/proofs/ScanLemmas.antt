-- The tokens of a text, taken one by one.
use Rattle.std.proofs.Common.{◌≡◌, ℕ, Some, None, List, [], ◌∷◌, ◌++◌, sym, subst, ◌∙◌}
use Rattle.std.proofs.lemmas.List.{append_assoc}
use Rattle.token_text.specs.Tokens.{HasNoTokens}
use Rattle.token_text.proofs.TokenLemmas.{Lexed, lex_step, lex_fail}
use Rattle.sparql_read.specs.Tokens.{Token, first}

pub scan_gap : (old all rest : List ℕ) (b : ℕ) (bs : List ℕ) → Lexed first old [] all → all ≡ b ∷ bs → Some (None, rest) ≡ first b bs
    → Lexed first old [] rest
scan_gap old all rest b bs l e f = lex_step first old [] b bs rest None (sym f) (subst (λ (x : List ℕ). Lexed first old [] x) e l)

pub scan_token : (old all rest : List ℕ) (b : ℕ) (bs : List ℕ) (t : Token) → Lexed first old [] all → all ≡ b ∷ bs → Some (Some t, rest) ≡ first b bs
    → Lexed first old (t ∷ []) rest
scan_token old all rest b bs t l e f = lex_step first old [] b bs rest (Some t) (sym f) (subst (λ (x : List ℕ). Lexed first old [] x) e l)

pub scan_other : (old all : List ℕ) (b : ℕ) (bs : List ℕ) → Lexed first old [] all → all ≡ b ∷ bs → None ≡ first b bs → HasNoTokens first old
scan_other old all b bs l e f = lex_fail first old [] b bs (sym f) (subst (λ (x : List ℕ). Lexed first old [] x) e l)

-- one part of a text after another
pub lexed_then : (text mid rest : List ℕ) (ts us : List Token) → Lexed first text ts mid → Lexed first mid us rest → Lexed first text (ts ++ us) rest
lexed_then text mid rest ts us one two = record {
  back = λ vs d. rw append_assoc (one.back _ (two.back vs d));
  forth = λ vs d.
      let x = one.forth vs d in
      let y = two.forth x.0 x.2 in
      (y.0, x.1 ∙ (λ i. ts ++ y.1 i) ∙ sym (append_assoc ts us y.0), y.2);
}

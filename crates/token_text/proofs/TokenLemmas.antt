-- The loop that cuts the tokens of a text one by one, and that no text has two lists of them.
use Rattle.std.proofs.Common.{◌≡◌, ℕ, Option, Some, None, List, [], ◌∷◌, ◌++◌, refl, sym, ap, subst, ◌∙◌, option_to_list}
use Rattle.std.proofs.lemmas.List.{append_assoc, append-nil}
use Rattle.token_text.specs.Tokens.{Cutter, HasTokens, no_bytes, gap, token, HasNoTokens}

module _ {T : Type 0} (first : Cutter T) where
  -- the tokens of the whole text are those in front and then those of the rest
  pub record Lexed (text : List ℕ) (front : List T) (rest : List ℕ) : Type 0 where
    pub back : (ts : List T) → HasTokens first rest ts → HasTokens first text (front ++ ts)
    pub forth : (ts : List T) → HasTokens first text ts → (more : List T) × (ts ≡ front ++ more) × HasTokens first rest more

  pub lex_start : (text : List ℕ) → Lexed text [] text
  lex_start text = record { back = λ ts d. d; forth = λ ts d. (ts, refl, d) }

  pairs_equal : (f : Option (Option T × List ℕ)) (p q : Option T × List ℕ) → f ≡ Some p → f ≡ Some q → p ≡ q
  pairs_equal f p q x y = cc

  none_some : (p : Option T × List ℕ) → ◌≡◌ {A = Option (Option T × List ℕ)} None (Some p) → ⊥
  none_some p e = cc

  gap_token : (t : T) → ◌≡◌ {A = Option T} None (Some t) → ⊥
  gap_token t e = cc

  same_token : (t u : T) → ◌≡◌ {A = Option T} (Some t) (Some u) → t ≡ u
  same_token t u e = cc

  abbrev left : Option T × List ℕ → Option T
  left p = p.0

  abbrev right : Option T × List ℕ → List ℕ
  right p = p.1

  -- what the tokens of the bytes are when they begin with a gap or a token
  invert : (b : ℕ) (bs rest : List ℕ) (x : Option T) (ts : List T) → first b bs ≡ Some (x, rest) → HasTokens first (b ∷ bs) ts
      → (more : List T) × (ts ≡ option_to_list x ++ more) × HasTokens first rest more
  invert b bs rest None ts e (gap {rest = r} {ts = us} f d) =
      (us, refl, subst (λ y. HasTokens first y us) (ap right (pairs_equal (first b bs) (None, r) (None, rest) f e)) d)
  invert b bs rest None ts e (token {rest = r} {t = t} f d) =
      absurd (gap_token t (ap left (pairs_equal (first b bs) (None, rest) (Some t, r) e f)))
  invert b bs rest (Some u) ts e (gap {rest = r} f d) =
      absurd (gap_token u (ap left (pairs_equal (first b bs) (None, r) (Some u, rest) f e)))
  invert b bs rest (Some u) ts e (token {rest = r} {t = t} {ts = us} f d) =
      let p : ◌≡◌ {A = Option T × List ℕ} (Some t, r) (Some u, rest) = pairs_equal (first b bs) (Some t, r) (Some u, rest) f e in
      (us, ap (λ (y : T). y ∷ us) (same_token t u (ap left p)), subst (λ y. HasTokens first y us) (ap right p) d)

  build : (b : ℕ) (bs rest : List ℕ) (x : Option T) (ts : List T) → first b bs ≡ Some (x, rest) → HasTokens first rest ts
      → HasTokens first (b ∷ bs) (option_to_list x ++ ts)
  build b bs rest None ts e d = gap e d
  build b bs rest (Some t) ts e d = token e d

  pub lex_step : (text : List ℕ) (front : List T) (b : ℕ) (bs rest : List ℕ) (x : Option T) → first b bs ≡ Some (x, rest)
      → Lexed text front (b ∷ bs) → Lexed text (front ++ option_to_list x) rest
  lex_step text front b bs rest x e l = record {
    back = λ ts d. rw append_assoc (l.back _ (build b bs rest x ts e d));
    forth = λ ts d.
        let one = l.forth ts d in
        let two = invert b bs rest x one.0 e one.2 in
        (two.0, one.1 ∙ ap (λ (y : List T). front ++ y) two.1 ∙ sym (append_assoc front (option_to_list x) two.0), two.2);
  }

  refused : (b : ℕ) (bs : List ℕ) (ts : List T) → first b bs ≡ None → HasTokens first (b ∷ bs) ts → ⊥
  refused b bs ts e (gap f d) = none_some _ (sym e ∙ f)
  refused b bs ts e (token f d) = none_some _ (sym e ∙ f)

  pub lex_fail : (text : List ℕ) (front : List T) (b : ℕ) (bs : List ℕ) → first b bs ≡ None → Lexed text front (b ∷ bs) → HasNoTokens first text
  lex_fail text front b bs e l ts d = let one = l.forth ts d in refused b bs one.0 e one.2

  pub lex_end : (text : List ℕ) (front : List T) → Lexed text front [] → HasTokens first text front
  lex_end text front l = subst (HasTokens first text) (append-nil front) (l.back [] no_bytes)

  no_more : (ts : List T) → HasTokens first [] ts → [] ≡ ts
  no_more ts no_bytes = refl

  one_tokens : {bytes : List ℕ} {ts : List T} → HasTokens first bytes ts → (us : List T) → HasTokens first bytes us → ts ≡ us
  one_tokens no_bytes us e = no_more us e
  one_tokens (gap {b = b} {bs = bs} {rest = rest} f d) us e =
      let x = invert b bs rest None us f e in
      one_tokens d x.0 x.2 ∙ sym x.1
  one_tokens (token {b = b} {bs = bs} {rest = rest} {t = t} f d) us e =
      let x = invert b bs rest (Some t) us f e in
      ap (λ (y : List T). t ∷ y) (one_tokens d x.0 x.2) ∙ sym x.1

  pub tokens_are_one : (bytes : List ℕ) (ts us : List T) → HasTokens first bytes ts → HasTokens first bytes us → ts ≡ us
  tokens_are_one bytes ts us d e = one_tokens d us e

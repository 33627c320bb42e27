-- Texts that are spelled piece by piece, each a token or a byte between tokens.
--   spelled spell pieces                     the text of the pieces
--   lexemes pieces                           their tokens
--   Apart spell is_gap may_precede pieces    each token stands before what may follow it, and between tokens are gaps alone
--   Cuts first spell is_gap may_precede      what is spelled of a token, before what may follow it, is cut as that token
--   SpelledIsRead T                          a law: a text that is spelled of pieces apart has the tokens of the pieces
use Rattle.std.specs.Prelude.{◌≡◌, ℕ, Bool, IsTrue, Some, None, List, [], ◌∷◌, ◌++◌, ⊤}
use Rattle.token_text.specs.Tokens.{Cutter, HasTokens}

-- a byte between tokens, or a token
pub data Piece (T : Type 0) : Type 0 where
  Gap : (byte : ℕ) → Piece T
  Lexeme : (token : T) → Piece T

-- the bytes of the pieces, one after the other
abbrev pub spelled : {T : Type 0} → (T → List ℕ) → List (Piece T) → List ℕ
spelled spell [] = []
spelled spell (Gap b ∷ ps) = b ∷ spelled spell ps
spelled spell (Lexeme t ∷ ps) = spell t ++ spelled spell ps

-- the tokens of the pieces
abbrev pub lexemes : {T : Type 0} → List (Piece T) → List T
lexemes [] = []
lexemes (Gap b ∷ ps) = lexemes ps
lexemes (Lexeme t ∷ ps) = t ∷ lexemes ps

-- each byte between tokens is a gap, and each token may precede all that is spelled behind it
abbrev pub Apart : {T : Type 0} → (T → List ℕ) → (ℕ → Bool) → (T → List ℕ → Bool) → List (Piece T) → Type 0
Apart spell is_gap may_precede [] = ⊤
Apart spell is_gap may_precede (Gap b ∷ ps) = IsTrue (is_gap b) × Apart spell is_gap may_precede ps
Apart spell is_gap may_precede (Lexeme t ∷ ps) = IsTrue (may_precede t (spelled spell ps)) × Apart spell is_gap may_precede ps

-- the bytes begin with the token, and the rest stands behind it
pub record CutsOff {T : Type 0} (first : Cutter T) (bytes : List ℕ) (t : T) (rest : List ℕ) : Type 0 where
  pub head : ℕ
  pub tail : List ℕ
  pub is : bytes ≡ head ∷ tail
  pub cut : first head tail ≡ Some (Some t, rest)

-- gaps are cut as gaps, and what is spelled of a token as that token, before all that it may precede
pub record Cuts {T : Type 0} (first : Cutter T) (spell : T → List ℕ) (is_gap : ℕ → Bool)
    (may_precede : T → List ℕ → Bool) : Type 0 where
  pub gaps : (b : ℕ) (bs : List ℕ) → IsTrue (is_gap b) → first b bs ≡ Some (None, bs)
  pub tokens : (t : T) (rest : List ℕ) → IsTrue (may_precede t rest) → CutsOff first (spell t ++ rest) t rest

-- the tokens of a text that is spelled are those that were spelled
abbrev pub SpelledIsRead : Type 0 → Type 0
SpelledIsRead T = (first : Cutter T) (spell : T → List ℕ) (is_gap : ℕ → Bool) (may_precede : T → List ℕ → Bool) (ps : List (Piece T))
    → Cuts first spell is_gap may_precede → Apart spell is_gap may_precede ps → HasTokens first (spelled spell ps) (lexemes ps)

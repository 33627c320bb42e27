-- The tokens of a text, for any way to cut the front off a text: `first b bs` is what the byte b and those behind it begin
-- with, a token or a gap (None in place of a token), with the bytes behind it. Where they begin with neither, there is none.
--   Cutter T                        such a way, with tokens of type T
--   HasTokens first bytes tokens    the tokens that the bytes have
--   HasNoTokens first bytes         the bytes have no tokens: somewhere stands neither a token nor a gap
--   TokensAreOne T                  a law: no bytes have two lists of tokens
use Rattle.std.specs.Prelude.{◌≡◌, ℕ, Option, Some, None, List, [], ◌∷◌}

-- a way to cut the front off a text, given as its first byte and those behind it
abbrev pub Cutter : Type 0 → Type 0
Cutter T = ℕ → List ℕ → Option (Option T × List ℕ)

-- each token stands where the one before it ends, with gaps between them
pub data HasTokens {T : Type 0} (first : Cutter T) : List ℕ → List T → Type 0 where
  no_bytes : HasTokens first [] []
  gap : {b : ℕ} {bs rest : List ℕ} {ts : List T} → first b bs ≡ Some (None, rest) → HasTokens first rest ts → HasTokens first (b ∷ bs) ts
  token : {b : ℕ} {bs rest : List ℕ} {t : T} {ts : List T} → first b bs ≡ Some (Some t, rest) → HasTokens first rest ts
      → HasTokens first (b ∷ bs) (t ∷ ts)

-- no list is that of the tokens of the bytes
abbrev pub HasNoTokens : {T : Type 0} → Cutter T → List ℕ → Type 0
HasNoTokens {T = T} first bytes = (ts : List T) → HasTokens first bytes ts → ⊥

-- tokens are a function of the text
abbrev pub TokensAreOne : Type 0 → Type 0
TokensAreOne T = (first : Cutter T) (bytes : List ℕ) (ts us : List T) → HasTokens first bytes ts → HasTokens first bytes us → ts ≡ us

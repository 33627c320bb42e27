-- The tokens of a text that is spelled are those that were spelled.
use Rattle.std.proofs.Common.{ℕ, Bool, List, [], ◌∷◌, ◌++◌, sym, subst}
use Rattle.token_text.specs.Tokens.{Cutter, HasTokens, no_bytes, gap, token}
use Rattle.token_text.specs.Spelled.{Piece, Gap, Lexeme, spelled, lexemes, Apart, Cuts, CutsOff}

module _ {T : Type 0} (first : Cutter T) (spell : T → List ℕ) (is_gap : ℕ → Bool) (may_precede : T → List ℕ → Bool)
    (cuts : Cuts first spell is_gap may_precede) where
  pub HasTokens-spelled : (ps : List (Piece T)) → Apart spell is_gap may_precede ps → HasTokens first (spelled spell ps) (lexemes ps)
  HasTokens-spelled [] apart = no_bytes
  HasTokens-spelled (Gap b ∷ ps) apart = gap (cuts.gaps b (spelled spell ps) apart.0) (HasTokens-spelled ps apart.1)
  HasTokens-spelled (Lexeme t ∷ ps) apart =
      let off : CutsOff first (spell t ++ spelled spell ps) t (spelled spell ps) = cuts.tokens t (spelled spell ps) apart.0 in
      subst (λ bytes. HasTokens first bytes (t ∷ lexemes ps)) (sym off.is) (token off.cut (HasTokens-spelled ps apart.1))

-- The text of terms and rules has its reading.
use Rattle.std.proofs.Common.{◌≡◌, ℕ, ◌+◌, List, [], ◌∷◌, length, map, refl, sym, ap, subst, ◌∙◌, suc, arith}
use Rattle.std.proofs.lemmas.List.{length-map}
use Rattle.token_text.specs.Spelled.{lexemes}
use Rattle.token_text.proofs.SpelledLemmas.{HasTokens-spelled}
use Rattle.query_terms.specs.declared.terms.Term.{Term}
use Rattle.sql_emit.specs.Numbered.{with_numbers}
use Rattle.sql_read.specs.Tokens.{is_blank, first, HasSqlTokens}
use Rattle.sql_emit.specs.Reading.{term_table, printed_of}
use Rattle.sql_emit.specs.Laws.{TextHasReading}
use Rattle.sql_emit.proofs.Spelling.{spell, may_precede}
use Rattle.sql_emit.proofs.SpellingLemmas.{spelling_is_read}
use Rattle.sql_emit.proofs.Pieces.{pieces_of}
use Rattle.sql_emit.proofs.PieceLemmas.{says_reading, keeps_reading}
use Rattle.sql_emit.proofs.TextLemmas.{text_is_spelled}
use Rattle.sql_emit.proofs.HoldsLemmas.{printed_holds}
use Rattle.sql_emit.proofs.GoodLemmas.{printed_is_full, printed_is_good}

length-with_numbers : (terms : List Term) (k : ℕ) → length (with_numbers k terms) ≡ length terms
length-with_numbers [] k = refl
length-with_numbers (t ∷ terms) k = ap (λ (n : ℕ). suc n) (length-with_numbers terms (k + 1))

pub text_has_reading : TextHasReading
text_has_reading terms rules p = record {
  reading = record {
    tokens = lexemes (pieces_of (printed_of terms rules));
    cut = subst (λ bytes. HasSqlTokens bytes (lexemes (pieces_of (printed_of terms rules)))) (sym (text_is_spelled terms rules))
        (HasTokens-spelled first spell is_blank may_precede spelling_is_read (pieces_of (printed_of terms rules))
        (keeps_reading (printed_of terms rules) (printed_is_good terms rules p)));
    says = says_reading (printed_of terms rules);
    full = printed_is_full terms rules p;
    holds = printed_holds terms rules p;
  };
  count = let counted : length (map term_table (with_numbers 0 terms)) ≡ length terms = length-map (with_numbers 0 terms) term_table ∙ length-with_numbers terms 0 in omega (arith, counted);
  first = refl;
}

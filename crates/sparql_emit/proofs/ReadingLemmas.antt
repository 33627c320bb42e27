-- The printed text of a query asks what the query does.
use Rattle.std.proofs.Common.{[], sym, subst}
use Rattle.token_text.proofs.SpelledLemmas.{HasTokens-spelled}
use Rattle.token_text.specs.Spelled.{lexemes}
use Rattle.token_text.specs.Tokens.{HasTokens}
use Rattle.sparql_read.specs.Tokens.{first, is_white}
use Rattle.sparql_emit.specs.Laws.{TextHasReading}
use Rattle.sparql_emit.proofs.Spelling.{spell, may_precede}
use Rattle.sparql_emit.proofs.SpellingLemmas.{spelling_cuts}
use Rattle.sparql_emit.proofs.Pieces.{text_pieces}
use Rattle.sparql_emit.proofs.TextLemmas.{text_is_spelled, reads_text}
use Rattle.sparql_emit.proofs.FineLemmas.{kept_text}
use Rattle.sparql_emit.proofs.HoldsLemmas.{printed_holds}

pub text_has_reading : TextHasReading
text_has_reading names q printable =
    let kept = kept_text names q printable.labels_have_names in
    record {
      tokens = lexemes (text_pieces names q);
      mark = [];
      cut = subst (λ bytes. HasTokens first bytes (lexemes (text_pieces names q))) (sym (text_is_spelled names q))
          (HasTokens-spelled first spell is_white may_precede spelling_cuts (text_pieces names q) kept.apart);
      text = reads_text names q printable.rules_are;
      marked = kept.marked;
      holds = printed_holds names q printable.rules_are;
    }

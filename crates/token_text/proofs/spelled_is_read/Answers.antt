use Rattle.token_text.proofs.SpelledLemmas.{HasTokens-spelled}
use Rattle.token_text.proofs.spelled_is_read.Goals as goal

pub returns : goal.returns
returns g c first spell is_gap may_precede ps cuts = HasTokens-spelled first spell is_gap may_precede cuts ps

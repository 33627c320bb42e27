use Rattle.token_text.proofs.TokenLemmas.{tokens_are_one}
use Rattle.token_text.proofs.tokens_are_one.Goals as goal

pub returns : goal.returns
returns g c first = tokens_are_one first

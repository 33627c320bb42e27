use Rattle.gm_text.proofs.DecimalLemmas.{canonical_is_decimal}
use Rattle.gm_text.proofs.laws.canonical_is_written.Goals as goal

pub returns : goal.returns
returns c = canonical_is_decimal

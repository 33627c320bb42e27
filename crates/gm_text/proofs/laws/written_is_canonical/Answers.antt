use Rattle.gm_text.proofs.DecimalLemmas.{decimal_is_canonical, digits_value_decimal}
use Rattle.gm_text.proofs.laws.written_is_canonical.Goals as goal

pub returns : goal.returns
returns c n small = (decimal_is_canonical n small, digits_value_decimal n small)

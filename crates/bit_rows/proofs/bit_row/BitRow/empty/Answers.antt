use Rattle.bit_rows.proofs.WordLemmas.{zeros_empty}
use Rattle.bit_rows.proofs.bit_row.BitRow.empty.Goals as goal

pub returns : goal.returns
returns g c = zeros_empty g.row.W

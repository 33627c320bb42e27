use Rattle.sel_algebra.proofs.PathLemmas.{join_parts}
use Rattle.sel_algebra.proofs.laws.join_is_at_least_its_parts.Goals as goal

pub returns : goal.returns
returns c = join_parts

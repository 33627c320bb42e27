use Rattle.sel_algebra.proofs.PathLemmas.{product_paths}
use Rattle.sel_algebra.proofs.laws.product_is_at_least_its_paths.Goals as goal

pub returns : goal.returns
returns c = product_paths

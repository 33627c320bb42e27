use Rattle.sel_algebra.proofs.PathLemmas.{closure_paths}
use Rattle.sel_algebra.proofs.laws.closure_is_at_least_its_paths.Goals as goal

pub returns : goal.returns
returns c = closure_paths

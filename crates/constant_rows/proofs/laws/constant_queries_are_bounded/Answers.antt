use Rattle.constant_rows.proofs.BoundLemmas.{constant_queries_are_bounded}
use Rattle.constant_rows.proofs.laws.constant_queries_are_bounded.Goals as goal

pub returns : goal.returns
returns c = constant_queries_are_bounded

use Rattle.constant_rows.proofs.GraphLemmas.{conforming_graphs_keep_types}
use Rattle.constant_rows.proofs.laws.conforming_graphs_keep_types.Goals as goal

pub returns : goal.returns
returns c = conforming_graphs_keep_types

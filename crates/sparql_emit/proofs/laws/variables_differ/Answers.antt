use Rattle.sparql_emit.proofs.laws.variables_differ.Goals as goal
use Rattle.sparql_emit.proofs.NameLemmas.{variables_differ}

pub returns : goal.returns
returns c = variables_differ

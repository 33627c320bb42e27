use Rattle.sparql_emit.proofs.ExampleLemmas.{texts_of_paths, texts_of_queries}
use Rattle.sparql_emit.proofs.laws.texts_of_examples.Goals as goal

pub returns-clause-paths : goal.returns-clause-paths
returns-clause-paths c = texts_of_paths

pub returns-clause-queries : goal.returns-clause-queries
returns-clause-queries c = texts_of_queries

use Rattle.sparql_read.proofs.RunLemmas.{cut_run}
use Rattle.sparql_read.proofs.lexer.split_run.Goals as goal

pub returns-clause-rest : goal.returns-clause-rest
returns-clause-rest c = cut_run c.args.kind c.args.bytes.now c.run_length-count.result c.run_length-count.ensures

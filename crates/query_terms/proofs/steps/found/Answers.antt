use Rattle.std.proofs.Common.{rules}
use Rattle.query_terms.proofs.StoreLemmas.{put_found}
use Rattle.query_terms.proofs.steps.found.Goals as goal

pub returns-clause-put : goal.returns-clause-put
returns-clause-put c = put_found c.args.terms.now c.args.term c.of.result c.len.ensures.numbered.store (search rules)

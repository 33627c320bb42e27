use Rattle.query_terms.specs.View.{query_value}
use Rattle.gm_top.proofs.WorkloadLemmas.{drawn-value, draw-memory, memory-only}
use Rattle.gm_top.proofs.generation.Generation.query.Goals as goal

pub returns-in_err-query-clause-stops : goal.returns-in_err-query-clause-stops
returns-in_err-query-clause-stops c =
    let own = c.args.self.now in
    let error = c.in_err-query.field-0.0 in
    let refusal = rw (c.config.ensures, c.seed.ensures) at c.in_err-query.ensures.no_such in
    memory-only c.from_residual.result error (draw-memory own.config own.seed c.args.number error c.requires.drawable refusal) c.from_residual.ensures.1

pub returns-clause-query : goal.returns-clause-query
returns-clause-query c =
    let own = c.args.self.now in
    let q = query_value c.in_ok-query.query in
    let drawn = rw (c.config.ensures, c.seed.ensures) at c.in_ok-query.ensures.drawn in
    drawn-value own.config own.seed c.args.number q c.requires.drawable drawn

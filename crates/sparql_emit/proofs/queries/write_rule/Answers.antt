use Rattle.std.proofs.Common.{◌∙◌}
use Rattle.std.proofs.lemmas.List.{take_all}
use Rattle.sparql_emit.proofs.QueryLemmas.{line_done, line_plain}
use Rattle.sparql_emit.proofs.queries.write_rule.Goals as goal

pub returns-clause-text : goal.returns-clause-text
returns-clause-text c =
    let all = take_all c.loop-conjunct.conjunct-index c.part_of-conjunct-items.result.now c.loop-conjunct-test.false ∙ c.part_of-conjunct-items.ensures in
    line_done c.args.names.now c.args.query.now c.args.rule.now _ _ _ _ _ all c.in_ok-push.ensures.items c.loop-conjunct.invariant.text c.in_ok-extend_from_slice.ensures.items

pub returns-clause-plain : goal.returns-clause-plain
returns-clause-plain c =
    let all = take_all c.loop-conjunct.conjunct-index c.part_of-conjunct-items.result.now c.loop-conjunct-test.false ∙ c.part_of-conjunct-items.ensures in
    line_plain c.args.names.now c.args.query.now c.args.rule.now _ all c.loop-conjunct.invariant.plain

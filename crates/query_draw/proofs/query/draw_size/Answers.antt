use Rattle.std.proofs.Common.{ap}
use Rattle.query_draw.proofs.PutLemmas.{some_same, some_none}
use Rattle.query_draw.proofs.QueryLemmas.{size_found}
use Rattle.query_draw.proofs.query.draw_size.Goals as goal

pub unreachable-requires : goal.unreachable-requires
unreachable-requires c =
    let plan = c.args.plan.now in
    let found =
    size_found plan.config.now c.workload.ensures.config plan.seed plan.query c.args.rule c.random_word-w.result plan.reach.now plan.shape plan.class c.workload.result.now.conjuncts c.pick_count.result
    plan.there_is plan.reach_is plan.shape_is plan.class_is (ap (λ w. w.conjuncts) c.workload.ensures.workload) c.random_word-w.ensures c.pick_count.ensures.value in
    some_none _ _ found c.in-None.is

pub returns : goal.returns
returns c =
    let plan = c.args.plan.now in
    let found =
    size_found plan.config.now c.workload.ensures.config plan.seed plan.query c.args.rule c.random_word-w.result plan.reach.now plan.shape plan.class c.workload.result.now.conjuncts c.pick_count.result
    plan.there_is plan.reach_is plan.shape_is plan.class_is (ap (λ w. w.conjuncts) c.workload.ensures.workload) c.random_word-w.ensures c.pick_count.ensures.value in
    some_same _ _ _ c.in-Some.is found

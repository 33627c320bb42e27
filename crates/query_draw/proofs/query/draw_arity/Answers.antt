use Rattle.std.proofs.Common.{◌≡◌, ap, ◌∙◌, arith}
use Rattle.skeletons.specs.Skeleton.{variables_of}
use Rattle.query_draw.specs.Query.{drawn_shape, rule_size}
use Rattle.query_draw.proofs.QueryLemmas.{arity_after-more, size_within, size_at, size_skeleton}
use Rattle.query_draw.proofs.query.draw_arity.Goals as goal

pub of-requires : goal.of-requires
of-requires c =
    let plan = c.args.plan.now in
    size_skeleton plan.config.now c.workload.ensures.config plan.seed plan.query c.loop-size.size-index 0 plan.shape c.args.sizes.now plan.there_is plan.shape_is c.requires c.loop-size-test.true

pub loop-size-preserved : goal.loop-size-preserved
loop-size-preserved c =
    let plan = c.args.plan.now in
    let g = plan.config.now in
    let i = c.loop-size.size-index in
    let step = arity_after-more g plan.seed plan.query i (size_within g plan.seed plan.query i c.args.sizes.now c.requires c.loop-size-test.true) in
    let size = size_at g plan.seed plan.query i 0 c.args.sizes.now c.requires c.loop-size-test.true in
    let variables : c.variables.result ≡ variables_of (drawn_shape g plan.seed plan.query) (rule_size g plan.seed plan.query i) =
    c.variables.ensures.variables ∙ (ap (λ s. variables_of s.shape s.count) c.of.ensures.value ∙ (λ k. variables_of (plan.shape_is k) (size k))) in
    record { so_far = omega (arith, c.min-arity.ensures, c.loop-size.invariant.so_far, variables, step) }

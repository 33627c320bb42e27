use Rattle.std.proofs.Common.{◌≡◌, ◌+◌, length, map, ap, subst, ◌∙◌, arith}
use Rattle.std.specs.List.{range_with_len}
use Rattle.std.proofs.lemmas.List.FromFn.{map-range_with_len_more, length-map-range_with_len}
use Rattle.seeded_draw.specs.Draw.{word}
use Rattle.skeletons.specs.Skeleton.{variables_of}
use Rattle.query_draw.specs.Query.{rule_size, rule_count, drawn_shape, drawn_rule}
use Rattle.query_draw.specs.Drawers.{random_words}
use Rattle.query_draw.proofs.QueryLemmas.{size_within, size_at, size_skeleton, arity_variables, live_start, rule_drawn, rules_put-more}
use Rattle.query_draw.proofs.query.draw_rules.Goals as goal

pub of-skeleton-requires : goal.of-skeleton-requires
of-skeleton-requires c =
    let plan = c.args.plan.now in
    size_skeleton plan.config.now c.workload.ensures.config plan.seed plan.query c.loop-rule.rule 0 plan.shape c.args.sizes.now plan.there_is plan.shape_is c.requires.sizes c.loop-rule-test.true

pub draw_rule-requires-clause-variables : goal.draw_rule-requires-clause-variables
draw_rule-requires-clause-variables c =
    let plan = c.args.plan.now in
    let g = plan.config.now in
    let i = c.loop-rule.rule in
    let size = size_at g plan.seed plan.query i 0 c.args.sizes.now c.requires.sizes c.loop-rule-test.true in
    let within = size_within g plan.seed plan.query i c.args.sizes.now c.requires.sizes c.loop-rule-test.true in
    let same : variables_of c.of-skeleton.result.shape c.of-skeleton.result.count ≡ variables_of (drawn_shape g plan.seed plan.query) (rule_size g plan.seed plan.query i) =
    ap (λ s. variables_of s.shape s.count) c.of-skeleton.ensures.value ∙ (λ k. variables_of (plan.shape_is k) (size k)) in
    omega (arith, same, c.requires.arity, arity_variables g plan.seed plan.query i within)

pub draw_rule-requires-clause-live : goal.draw_rule-requires-clause-live
draw_rule-requires-clause-live c =
    let plan = c.args.plan.now in
    let g = plan.config.now in
    let i = c.loop-rule.rule in
    let size = size_at g plan.seed plan.query i 0 c.args.sizes.now c.requires.sizes c.loop-rule-test.true in
    live_start g c.workload.ensures.config plan.seed plan.query i c.drawer-drawer.result.reach.now c.of-skeleton.result.shape plan.class c.of-skeleton.result.count plan.there_is c.drawer-drawer.ensures.reach
    (ap (λ s. s.shape) c.of-skeleton.ensures.value ∙ plan.shape_is) plan.class_is (ap (λ s. s.count) c.of-skeleton.ensures.value ∙ size)

pub loop-rule-preserved : goal.loop-rule-preserved
loop-rule-preserved c =
    let plan = c.args.plan.now in
    let g = plan.config.now in
    let i = c.loop-rule.rule in
    let e = c.drawer-drawer.ensures in
    let size = size_at g plan.seed plan.query i 0 c.args.sizes.now c.requires.sizes c.loop-rule-test.true in
    let each = drawn_rule g plan.seed plan.query in
    let same =
    rule_drawn g plan.seed plan.query i c.drawer-drawer.result.reach.now c.drawer-drawer.result.workload.now (random_words c.drawer-drawer.result) c.of-skeleton.result.shape plan.class c.of-skeleton.result.count c.args.arity
    e.reach e.workload (λ k. word (e.seed k) (e.stream k)) (ap (λ s. s.shape) c.of-skeleton.ensures.value ∙ plan.shape_is) plan.class_is
    (ap (λ s. s.count) c.of-skeleton.ensures.value ∙ size) c.requires.arity in
    record {
      put =
          rules_put-more c.args.builder.now c.loop-rule.builder c.draw_rule.new.builder (map each (range_with_len 0 i)) (map each (range_with_len 0 (i + 1))) _ (each i) c.loop-rule.invariant.put c.in_ok-draw_rule.ensures.put
          same (map-range_with_len_more each 0 i i (omega arith));
      few = omega (arith, c.loop-rule.invariant.few, c.in_ok-draw_rule.ensures.few);
      heads = c.in_ok-draw_rule.ensures.heads;
    }

pub returns : goal.returns
returns c =
    let plan = c.args.plan.now in
    let g = plan.config.now in
    let count : length c.args.sizes.now ≡ rule_count g plan.seed plan.query = ap length c.requires.sizes ∙ length-map-range_with_len (rule_size g plan.seed plan.query) 0 (rule_count g plan.seed plan.query) in
    let same : c.loop-rule.rule ≡ rule_count g plan.seed plan.query = omega (arith, count, c.loop-rule-test.false, c.loop-rule.auto.rule-end) in
    subst (λ n. c.loop-rule.builder ≡ record c.args.builder.now { rules = map (drawn_rule g plan.seed plan.query) (range_with_len 0 n); taken = c.loop-rule.builder.taken }) same c.loop-rule.invariant.put

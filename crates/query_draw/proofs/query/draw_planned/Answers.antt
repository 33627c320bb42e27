use Rattle.std.proofs.Common.{◌∙◌, length, map, ap, arith}
use Rattle.std.proofs.lemmas.List.FromFn.{length-map-range_with_len}
use Rattle.query_terms.specs.Lists.{rules_in}
use Rattle.query_draw.specs.Query.{rule_count, rule_size}
use Rattle.query_draw.specs.Wide.{query_wide}
use Rattle.query_draw.proofs.QueryLemmas.{few_rules, arity_few, rules_some, class_there, planned_is, wide_there}
use Rattle.query_draw.proofs.query.draw_planned.Goals as goal

pub draw_rules-requires-clause-few : goal.draw_rules-requires-clause-few
draw_rules-requires-clause-few c =
    let plan = c.args.plan.now in
    let config = plan.config.now in
    omega (
      arith,
      ap length c.deref-3.ensures.value,
      ap length c.in_ok-sizes.ensures,
      length-map-range_with_len (rule_size config plan.seed plan.query) 0 (rule_count config plan.seed plan.query),
      few_rules config c.workload.ensures.config plan.seed plan.query,
    )

pub draw_rules-requires-clause-heads : goal.draw_rules-requires-clause-heads
draw_rules-requires-clause-heads c =
    let plan = c.args.plan.now in
    omega (arith, c.draw_arity-arity.ensures, arity_few plan.config.now c.workload.ensures.config plan.seed plan.query)

pub finish-requires-clause-some : goal.finish-requires-clause-some
finish-requires-clause-some c =
    let plan = c.args.plan.now in
    let rules = ap (λ b. length b.rules) c.in_ok-draw_rules.ensures in
    omega (arith, rules, rules_some plan.config.now c.workload.ensures.config plan.seed plan.query)

pub finish-requires-clause-class : goal.finish-requires-clause-class
finish-requires-clause-class c =
    let plan = c.args.plan.now in
    class_there plan.config.now c.workload.ensures.config plan.seed plan.query c.draw_arity-arity.result plan.class c.class_with-class.result c.draw_rules.new.builder.rules
    plan.there_is c.draw_arity-arity.ensures c.class_with-class.ensures (ap (λ b. b.rules) c.in_ok-draw_rules.ensures)

pub finish-requires-clause-wide : goal.finish-requires-clause-wide
finish-requires-clause-wide c =
    let plan = c.args.plan.now in
    class_there plan.config.now c.workload.ensures.config plan.seed plan.query c.draw_arity-arity.result plan.class c.class_with-class.result c.draw_rules.new.builder.rules
    plan.there_is c.draw_arity-arity.ensures c.class_with-class.ensures (ap (λ b. b.rules) c.in_ok-draw_rules.ensures)

pub invariant_of-query : goal.invariant_of-query
invariant_of-query c =
    let plan = c.args.plan.now in
    let q = c.in_ok-query.query in
    let value = c.in_ok-query.ensures in
    let shape = ap (λ v. v.shape) value ∙ plan.shape_is in
    let rules = ap (λ v. v.rules) value ∙ ap (λ b. b.rules) c.in_ok-draw_rules.ensures in
    let wide = c.in_ok-query-2.ensures ∙ ap (λ g. query_wide g q.shape (rules_in q.symbols.now q.words.now q.conjuncts.now q.rules.now)) plan.schema_is in
    record {
      symbols_are = q.symbols_are;
      words_are = q.words_are;
      words_lie = q.words_lie;
      conjuncts_cover = q.conjuncts_cover;
      rules_cover = q.rules_cover;
      conjuncts_lie = q.conjuncts_lie;
      rules_lie = q.rules_lie;
      heads_are = q.heads_are;
      rules_are = q.rules_are;
      class_is = q.class_is;
      wide_is = wide_there plan.config.now c.workload.ensures.config plan.seed plan.query c.in_ok-query-2.field-0 q.shape _ plan.there_is shape rules wide;
      terms_are = q.terms_are;
      numbers_are = q.numbers_are;
      terms_lie = q.terms_lie;
    }

pub returns : goal.returns
returns c =
    let plan = c.args.plan.now in
    let q = c.in_ok-query.query in
    let value = c.in_ok-query.ensures in
    let shape = ap (λ v. v.shape) value ∙ plan.shape_is in
    let rules = ap (λ v. v.rules) value ∙ ap (λ b. b.rules) c.in_ok-draw_rules.ensures in
    let wide = c.in_ok-query-2.ensures ∙ ap (λ g. query_wide g q.shape (rules_in q.symbols.now q.words.now q.conjuncts.now q.rules.now)) plan.schema_is in
    let labels =
    ap (λ v. v.labels) value
    ∙ ap (λ b. b.labels) c.in_ok-draw_rules.ensures
    ∙ ap (λ b. b.labels) c.in_ok-builder.ensures
    ∙ c.deref-2.ensures.value
    ∙ c.in_ok-labels.ensures
    ∙ ap (λ g. map (λ e. e.label) g.edges) plan.schema_is in
    planned_is plan.config.now c.workload.ensures.config plan.seed plan.query c.draw_arity-arity.result plan.class q.class c.in_ok-query-2.field-0 q.labels.now q.shape _
    plan.there_is c.draw_arity-arity.ensures plan.class_is (ap (λ v. v.class) value ∙ c.class_with-class.ensures) labels shape rules wide

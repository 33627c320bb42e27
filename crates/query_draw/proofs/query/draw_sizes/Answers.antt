use Rattle.std.proofs.Common.{◌++◌, ◌∷◌, [], sym, ◌∙◌, arith}
use Rattle.std.proofs.lemmas.List.FromFn.{map-range_with_len_more}
use Rattle.query_draw.specs.Query.{rule_size}
use Rattle.query_draw.proofs.query.draw_sizes.Goals as goal

pub loop-rule-preserved : goal.loop-rule-preserved
loop-rule-preserved c =
    let plan = c.args.plan.now in
    record {
      put =
          c.in_ok-push.ensures.items
          ∙ ((λ k. c.loop-rule.invariant.put k ++ c.draw_size.ensures k ∷ [])
          ∙ sym (map-range_with_len_more (rule_size plan.config.now plan.seed plan.query) 0 c.loop-rule.rule c.loop-rule.rule (omega arith)));
    }

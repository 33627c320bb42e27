use Rattle.std.proofs.Common.{◌≡◌, map}
use Rattle.std.specs.List.{range_with_len}
use Rattle.query_draw.specs.Query.{rule_size}
use Rattle.query_draw.proofs.query.draw_sizes.Given as goal

abbrev pub invariant-loop-rule : goal.invariant-loop-rule
invariant-loop-rule l = record {
  put : l.sizes.items ≡ map (rule_size l.plan.config.now l.plan.seed l.plan.query) (range_with_len 0 l.rule);
}

use Rattle.std.proofs.Common.{◌≡◌, ◌*◌, ◌≤◌, true, map}
use Rattle.std.specs.List.{range_with_len}
use Rattle.query_terms.specs.Values.{have_heads}
use Rattle.query_draw.specs.Query.{drawn_rule}
use Rattle.query_draw.proofs.query.draw_rules.Given as goal

abbrev pub invariant-loop-rule : goal.invariant-loop-rule
invariant-loop-rule l = record {
  put : l.builder ≡ record l.fn.builder { rules = map (drawn_rule l.plan.config.now l.plan.seed l.plan.query) (range_with_len 0 l.rule); taken = l.builder.taken };
  few : l.builder.taken ≤ 2048 * l.rule;
  heads : have_heads l.arity l.builder.rules ≡ true;
}

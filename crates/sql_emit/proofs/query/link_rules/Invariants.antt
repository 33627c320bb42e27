use Rattle.std.proofs.Common.{◌≡◌, map, take}
use Rattle.sql_emit.specs.Writing.{link_rule_in}
use Rattle.sql_emit.proofs.query.link_rules.Given as goal

abbrev pub invariant-loop-rule : goal.invariant-loop-rule
invariant-loop-rule l = l.found.items ≡ map (link_rule_in l.conjuncts) (take l.rule-index l.rules)

use Rattle.std.proofs.Common.{◌≡◌, ◌++◌, true, take, codes}
use Rattle.std.specs.List.{flat_map, list_all}
use Rattle.sparql_emit.specs.QueryText.{rule_line}
use Rattle.sparql_emit.specs.Words.{rule_of, is_plain}
use Rattle.sparql_emit.proofs.queries.write_rules.Given as goal

abbrev pub invariant-loop-rule : goal.invariant-loop-rule
invariant-loop-rule l = record {
  text : l.out.items ≡ l.initial.out.items ++ flat_map (λ r. codes "UNION\n" ++ rule_line l.names l.query.labels.now (rule_of l.query r)) (take l.rule-index l.others);
  plain : list_all (λ r. list_all (is_plain l.names l.query.labels.now) (rule_of l.query r).conjuncts) (take l.rule-index l.others) ≡ true;
}

use Rattle.std.proofs.Common.{◌≡◌, map, drop}
use Rattle.sel_algebra.specs.Entries.{greater_class}
use Rattle.query_terms.specs.View.{query_value}
use Rattle.query_draw.specs.Values.{greatest_of}
use Rattle.query_draw.specs.Wide.{rule_wide}
use Rattle.query_draw.specs.Work.{IsWork}
use Rattle.query_draw.proofs.wide.wide_class.Given as goal

abbrev pub invariant-loop-rule : goal.invariant-loop-rule
invariant-loop-rule l = record {
  work : IsWork l.schema l.work;
  so_far : greatest_of (map (rule_wide l.schema l.query.shape) (query_value l.query).rules) ≡ greater_class l.wide (greatest_of (map (rule_wide l.schema l.query.shape) (drop l.rule-index (query_value l.query).rules)));
}

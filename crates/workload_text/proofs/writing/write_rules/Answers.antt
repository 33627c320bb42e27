use Rattle.std.proofs.Common.{ap, refl}
use Rattle.std.proofs.lemmas.List.{append-nil}
use Rattle.graph_text.proofs.PartLemmas.{OnErr-from}
use Rattle.workload_text.specs.Lines.{lines_text, rule_lines}
use Rattle.workload_text.specs.Writing.{rule_of, rules_lines}
use Rattle.workload_text.proofs.WritingLemmas.{split-rules, text-step, text-stopped}
use Rattle.workload_text.proofs.writing.write_rules.Goals as goal

pub loop-rule-preserved : goal.loop-rule-preserved
loop-rule-preserved c =
    text-step (λ rs. lines_text (rules_lines c.args.query.now rs)) (split-rules c.args.query.now) c.args.rules.now c.loop-rule.rule-index _ _ refl
    c.loop-rule-test.true _ _ _ c.loop-rule.invariant (ap lines_text (append-nil (rule_lines (rule_of c.args.query.now _)))) _ c.in_ok-write_rule.ensures.ok

pub returns-in_err-write_rule-clause-err : goal.returns-in_err-write_rule-clause-err
returns-in_err-write_rule-clause-err c =
    OnErr-from c.from_residual.result
    (text-stopped (λ rs. lines_text (rules_lines c.args.query.now rs)) (split-rules c.args.query.now) c.args.rules.now c.loop-rule.rule-index _ _ refl
    c.loop-rule-test.true _ _ _ c.loop-rule.invariant (ap lines_text (append-nil (rule_lines (rule_of c.args.query.now _)))) _ c.in_err-write_rule.ensures.err)

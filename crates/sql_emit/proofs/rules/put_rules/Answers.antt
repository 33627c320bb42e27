use Rattle.std.specs.List.{list_all}
use Rattle.sql_emit.specs.Rules.{occurs}
use Rattle.sql_emit.specs.Text.{rule_text}
use Rattle.sql_emit.specs.Laws.{has_few_links}
use Rattle.std.proofs.Common.{codes}
use Rattle.sql_emit.proofs.WriteLemmas.{all_at, all_more, written_more}
use Rattle.sql_emit.proofs.rules.put_rules.Goals as goal

pub put_rule-requires : goal.put_rule-requires
put_rule-requires c = record { heads = all_at (λ r. list_all (occurs r.links) r.heads) c.args.rules.now c.loop-i.i c.at.result.now c.at.ensures c.requires.heads }

pub loop-i-preserved : goal.loop-i-preserved
loop-i-preserved c = record {
  text = written_more rule_text (codes "\nUNION\n") c.args.rules.now c.loop-i.i c.at.result.now _ _ _ _ c.at.ensures c.loop-i.invariant.text c.in_ok-put_lead.ensures
      c.in_ok-put_rule.ensures.text;
  few = all_more has_few_links c.args.rules.now c.loop-i.i c.at.result.now c.at.ensures c.loop-i.invariant.few c.in_ok-put_rule.ensures.few;
}

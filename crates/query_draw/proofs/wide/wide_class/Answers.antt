use Rattle.std.proofs.Common.{◌<◌, length, map, sym, ap, subst, ◌∙◌}
use Rattle.std.proofs.lemmas.List.{length-map}
use Rattle.sel_algebra.specs.Entries.{greater_class}
use Rattle.query_terms.specs.Spans.{lies}
use Rattle.query_terms.specs.Lists.{conjuncts_in, rule_in}
use Rattle.query_terms.specs.View.{query_value}
use Rattle.query_draw.specs.Values.{greatest_of}
use Rattle.query_draw.specs.Wide.{rule_wide}
use Rattle.query_terms.proofs.SpanLemmas.{passes_mapped}
use Rattle.query_draw.proofs.MatrixLemmas.{got_mapped, rules_pass, greatest_more}
use Rattle.query_draw.proofs.wide.wide_class.Goals as goal

pub rule_wide-class-requires-clause-lies : goal.rule_wide-class-requires-clause-lies
rule_wide-class-requires-clause-lies c =
    let q = c.args.query.now in
    let n = length q.conjuncts.now in
    let i = c.loop-rule.rule-index in
    passes_mapped (lies n) (λ r. r.conjuncts) q.rules.now i _ q.rules_lie c.loop-rule-test.true

pub rule_wide-class-requires-clause-edges : goal.rule_wide-class-requires-clause-edges
rule_wide-class-requires-clause-edges c =
    let q = c.args.query.now in
    rules_pass (length q.labels.now) (length c.args.schema.now.edges) q.symbols.now q.words.now q.conjuncts.now q.rules.now c.loop-rule.rule-index _ q.rules_are c.requires c.loop-rule-test.true

pub loop-rule-preserved : goal.loop-rule-preserved
loop-rule-preserved c =
    let q = c.args.query.now in
    let i = c.loop-rule.rule-index in
    let whole = rule_in (conjuncts_in q.symbols.now q.words.now q.conjuncts.now) in
    let f = rule_wide c.args.schema.now q.shape in
    let within = subst (λ n. i < n) (sym (length-map q.rules.now whole)) c.loop-rule-test.true in
    record {
      work = c.rule_wide-class.ensures.work;
      so_far =
          greatest_more f (greatest_of (map f (query_value q).rules)) c.loop-rule.wide c.greater_class-wide.result (query_value q).rules i _ within c.loop-rule.invariant.so_far
          (c.greater_class-wide.ensures ∙ ap (greater_class c.loop-rule.wide) (c.rule_wide-class.ensures.value ∙ ap f (sym (got_mapped whole q.rules.now i _))));
    }

use Rattle.std.proofs.Common.{◌≡◌, ap, ◌∙◌, length}
use Rattle.query_terms.specs.View.{query_value}
use Rattle.sql_emit.specs.Text.{query_links}
use Rattle.sql_emit.specs.Rules.{link_rules}
use Rattle.sql_emit.proofs.MeaningLemmas.{if_ok, query_has_rows}
use Rattle.sql_emit.proofs.QueryLemmas.{rules_lie, rules_same, rules_are_printable}
use Rattle.sql_emit.proofs.query.sql_text.Goals as goal

pub link_rules-requires : goal.link_rules-requires
link_rules-requires c = let q = c.args.query.now in rules_lie (length q.conjuncts.now) q.rules.now q.rules_lie q.heads_are

pub links_text-requires : goal.links_text-requires
links_text-requires c =
    let q = c.args.query.now in
    rw c.in_ok-rules.ensures (rules_are_printable q q.conjuncts.now (length q.terms) (length q.labels.now) q.terms_lie q.rules.now q.rules_are)

pub returns-clause-text : goal.returns-clause-text
returns-clause-text c =
    let q = c.args.query.now in
    let same = rules_same q q.conjuncts.now q.rules.now 0 _ q.rules_cover q.rules_lie in
    let rules : c.in_ok-rules.rules ≡ query_links (query_value q) = c.in_ok-rules.ensures ∙ same ∙ ap (link_rules _) q.numbers_are in
    rw (← q.terms_are, ← rules) c.links_text.ensures.text

pub returns-clause-reading : goal.returns-clause-reading
returns-clause-reading c =
    let q = c.args.query.now in
    let same = rules_same q q.conjuncts.now q.rules.now 0 _ q.rules_cover q.rules_lie in
    let rules : c.in_ok-rules.rules ≡ query_links (query_value q) = c.in_ok-rules.ensures ∙ same ∙ ap (link_rules _) q.numbers_are in
    rw (← rules) c.links_text.ensures.reading

pub returns-clause-rows : goal.returns-clause-rows
returns-clause-rows c =
    let q = c.args.query.now in
    let same = rules_same q q.conjuncts.now q.rules.now 0 _ q.rules_cover q.rules_lie in
    let rules : c.in_ok-rules.rules ≡ query_links (query_value q) = c.in_ok-rules.ensures ∙ same ∙ ap (link_rules _) q.numbers_are in
    if_ok c.links_text.result _ _ (λ text has. query_has_rows text.items (query_value q) q.rules_are has)
    (rw (rules, q.terms_are) at c.links_text.ensures.rows)

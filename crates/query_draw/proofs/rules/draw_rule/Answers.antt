use Rattle.std.proofs.Common.{◌≡◌, ◌++◌, length, true, sym, ap, subst, ◌∙◌}
use Rattle.std.specs.List.{list_all}
use Rattle.query_terms.specs.Values.{differ, occurs}
use Rattle.query_draw.specs.Drawers.{random_words, conjuncts_by}
use Rattle.query_draw.proofs.RuleLemmas.{length-rule_legs}
use Rattle.query_draw.proofs.ConjunctLemmas.{rule_whole}
use Rattle.query_draw.proofs.rules.draw_rule.Goals as goal

pub draw_conjuncts-requires-clause-long : goal.draw_conjuncts-requires-clause-long
draw_conjuncts-requires-clause-long c =
    let d = c.args.drawer.now in
    let s = c.args.skeleton.now in
    ap length (c.deref.ensures.value ∙ c.in_ok-legs.ensures.legs)
    ∙ length-rule_legs d.reach.now d.workload.now (random_words d) s.shape c.args.class s.count c.draw_start-start.result c.requires.skeleton

pub end_rule-requires-clause-some : goal.end_rule-requires-clause-some
end_rule-requires-clause-some c =
    let d = c.args.drawer.now in
    let s = c.args.skeleton.now in
    let put = ap (λ b. b.conjuncts) c.in_ok-draw_conjuncts.ensures.put ∙ ap (λ cs. cs ++ conjuncts_by d s 0 c.deref.result.now) c.requires.conjuncts in
    let whole =
    rule_whole d.reach.now d.workload.now (random_words d) s.shape c.args.class s.count c.draw_start-start.result c.args.arity c.deref.result.now c.draw_conjuncts.new.builder.conjuncts
    c.requires.skeleton c.requires.arity c.requires.variables (c.deref.ensures.value ∙ c.in_ok-legs.ensures.legs) put in
    whole.some

pub end_rule-requires-clause-differ : goal.end_rule-requires-clause-differ
end_rule-requires-clause-differ c =
    let d = c.args.drawer.now in
    let s = c.args.skeleton.now in
    let put = ap (λ b. b.conjuncts) c.in_ok-draw_conjuncts.ensures.put ∙ ap (λ cs. cs ++ conjuncts_by d s 0 c.deref.result.now) c.requires.conjuncts in
    let whole =
    rule_whole d.reach.now d.workload.now (random_words d) s.shape c.args.class s.count c.draw_start-start.result c.args.arity c.deref.result.now c.draw_conjuncts.new.builder.conjuncts
    c.requires.skeleton c.requires.arity c.requires.variables (c.deref.ensures.value ∙ c.in_ok-legs.ensures.legs) put in
    subst (λ hs. differ hs ≡ true) (sym c.heads_of.ensures.heads) whole.differ

pub end_rule-requires-clause-occur : goal.end_rule-requires-clause-occur
end_rule-requires-clause-occur c =
    let d = c.args.drawer.now in
    let s = c.args.skeleton.now in
    let put = ap (λ b. b.conjuncts) c.in_ok-draw_conjuncts.ensures.put ∙ ap (λ cs. cs ++ conjuncts_by d s 0 c.deref.result.now) c.requires.conjuncts in
    let whole =
    rule_whole d.reach.now d.workload.now (random_words d) s.shape c.args.class s.count c.draw_start-start.result c.args.arity c.deref.result.now c.draw_conjuncts.new.builder.conjuncts
    c.requires.skeleton c.requires.arity c.requires.variables (c.deref.ensures.value ∙ c.in_ok-legs.ensures.legs) put in
    subst (λ hs. list_all (occurs c.draw_conjuncts.new.builder.conjuncts) hs ≡ true) (sym c.heads_of.ensures.heads) whole.occur

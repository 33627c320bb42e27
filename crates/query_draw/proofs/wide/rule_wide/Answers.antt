use Rattle.std.proofs.Common.{◌≡◌, length, take, true, sym, ap, subst, ◌∙◌}
use Rattle.std.specs.List.{list_all}
use Rattle.std.proofs.lemmas.List.Folds.{list_all-map}
use Rattle.sel_algebra.specs.Table.{one_of}
use Rattle.sel_algebra.specs.Greatest.{greatest_class_of}
use Rattle.skeletons.specs.Skeleton.{spine_of}
use Rattle.query_terms.specs.Spans.{cut, lies}
use Rattle.query_terms.specs.Lists.{conjuncts_in}
use Rattle.query_draw.specs.Classes.{IsGreatestOver}
use Rattle.query_draw.specs.Wide.{spine_matrix}
use Rattle.query_draw.proofs.WideLemmas.{spine_kinds}
use Rattle.query_draw.proofs.MatrixLemmas.{passes_first, passes_cut, rule_conjuncts_pass, spine_part}
use Rattle.query_draw.proofs.wide.rule_wide.Goals as goal

pub follow_spine-requires-clause-lie : goal.follow_spine-requires-clause-lie
follow_spine-requires-clause-lie c =
    let q = c.args.query.now in
    let n = length q.words.now in
    let all = sym (list_all-map (lies n) (λ c. c.words) q.conjuncts.now) ∙ q.conjuncts_lie in
    let first = c.first-spine.ensures ∙ ap (λ cs. take c.spine_of.result cs) c.part_of-conjuncts.ensures in
    subst (λ cs. list_all (λ x. lies n x.words) cs ≡ true) (sym first) (passes_first (λ x. lies n x.words) c.spine_of.result (cut q.conjuncts.now c.args.rule.now.conjuncts) (passes_cut (λ x. lies n x.words) q.conjuncts.now c.args.rule.now.conjuncts all))

pub follow_spine-requires-clause-edges : goal.follow_spine-requires-clause-edges
follow_spine-requires-clause-edges c =
    let q = c.args.query.now in
    let first = c.first-spine.ensures ∙ ap (λ cs. take c.spine_of.result cs) c.part_of-conjuncts.ensures in
    rule_conjuncts_pass (length c.args.schema.now.edges) q.symbols.now q.words.now q.conjuncts.now c.first-spine.result.now c.args.rule.now c.spine_of.result c.requires.edges first

pub returns-clause-value : goal.returns-clause-value
returns-clause-value c =
    let g = c.args.schema.now in
    let q = c.args.query.now in
    let cs = conjuncts_in q.symbols.now q.words.now c.first-spine.result.now in
    let first = c.first-spine.ensures ∙ ap (λ xs. take c.spine_of.result xs) c.part_of-conjuncts.ensures in
    let short = c.spine_of.ensures.value ∙ ap (λ xs. spine_of q.shape (length xs)) c.part_of-conjuncts.ensures in
    let greatest = subst (λ ks. IsGreatestOver ks c.follow_spine.new.work.spine c.greatest_class.result) c.kinds.ensures.kinds c.greatest_class.ensures in
    greatest (spine_matrix g cs) (spine_kinds g (one_of g.kinds) cs) c.follow_spine.ensures.spine
    ∙ ap (λ xs. greatest_class_of (spine_matrix g xs)) (spine_part q.symbols.now q.words.now q.conjuncts.now c.first-spine.result.now c.args.rule.now q.shape c.spine_of.result first short)

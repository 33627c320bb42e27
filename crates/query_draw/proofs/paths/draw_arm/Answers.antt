use Rattle.std.proofs.Common.{◌≤◌, ◌+◌, sym, ap, subst, ◌∙◌}
use Rattle.query_draw.specs.Drawers.{random_words}
use Rattle.query_draw.proofs.PutLemmas.{stream_words, arm_found, some_same, some_none}
use Rattle.query_draw.proofs.paths.draw_arm.Goals as goal

pub unreachable-requires : goal.unreachable-requires
unreachable-requires c =
    let d = c.args.drawer.now in
    let found =
    arm_found d.reach.now d.reach_is (subst (λ x. x.least ≤ x.most) (sym d.lengths_are) d.workload_is.words.ordered) d.workload.now (random_words d) (stream_words d.seed d.stream) c.args.from c.args.i
    c.random_word-w.result c.wants_star.result c.pick_arm.result c.requires (c.random_word-w.ensures ∙ ap (λ x. random_words d (x + 1)) c.conjunct_place.ensures.place) c.wants_star.ensures c.pick_arm.ensures.value in
    some_none _ _ found c.in-None.is

pub returns : goal.returns
returns c =
    let d = c.args.drawer.now in
    let found =
    arm_found d.reach.now d.reach_is (subst (λ x. x.least ≤ x.most) (sym d.lengths_are) d.workload_is.words.ordered) d.workload.now (random_words d) (stream_words d.seed d.stream) c.args.from c.args.i
    c.random_word-w.result c.wants_star.result c.pick_arm.result c.requires (c.random_word-w.ensures ∙ ap (λ x. random_words d (x + 1)) c.conjunct_place.ensures.place) c.wants_star.ensures c.pick_arm.ensures.value in
    ap (λ m. record { from = c.args.from; via = m }) (some_same _ _ _ c.in-Some.is found)

use Rattle.std.proofs.Common.{◌+◌, ap, ◌∙◌}
use Rattle.query_draw.specs.Drawers.{random_words}
use Rattle.query_draw.proofs.PutLemmas.{stream_words, spine_move_found, some_same, some_none}
use Rattle.query_draw.proofs.paths.draw_spine_move.Goals as goal

pub unreachable-requires : goal.unreachable-requires
unreachable-requires c =
    let d = c.args.drawer.now in
    let found =
    spine_move_found d.reach.now d.reach_is d.workload.now (random_words d) (stream_words d.seed d.stream) c.args.goal c.args.state c.args.left c.args.i c.random_word-w.result c.wants_star.result
    c.pick_move.result c.requires.live (c.random_word-w.ensures ∙ ap (λ x. random_words d (x + 1)) c.conjunct_place.ensures.place) c.wants_star.ensures c.pick_move.ensures.value in
    some_none _ _ found c.in-None.is

pub returns-clause-value : goal.returns-clause-value
returns-clause-value c =
    let d = c.args.drawer.now in
    let found =
    spine_move_found d.reach.now d.reach_is d.workload.now (random_words d) (stream_words d.seed d.stream) c.args.goal c.args.state c.args.left c.args.i c.random_word-w.result c.wants_star.result
    c.pick_move.result c.requires.live (c.random_word-w.ensures ∙ ap (λ x. random_words d (x + 1)) c.conjunct_place.ensures.place) c.wants_star.ensures c.pick_move.ensures.value in
    some_same _ _ _ c.in-Some.is found

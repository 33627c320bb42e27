use Rattle.query_draw.specs.Drawers.{random_words}
use Rattle.query_draw.proofs.PutLemmas.{stream_words, start_found, some_same, some_none}
use Rattle.query_draw.proofs.rules.draw_start.Goals as goal

pub unreachable-requires : goal.unreachable-requires
unreachable-requires c =
    let d = c.args.drawer.now in
    let found =
    start_found d.reach.now c.args.skeleton.now.shape c.args.class c.args.skeleton.now.count (random_words d) (stream_words d.seed d.stream) c.requires.live c.random_word.result c.spine.result c.second.result
    c.pick_start.result c.random_word.ensures c.spine.ensures.spine c.second.ensures.second c.pick_start.ensures.value in
    some_none _ _ found c.in-None.is

pub returns-clause-start : goal.returns-clause-start
returns-clause-start c =
    let d = c.args.drawer.now in
    let found =
    start_found d.reach.now c.args.skeleton.now.shape c.args.class c.args.skeleton.now.count (random_words d) (stream_words d.seed d.stream) c.requires.live c.random_word.result c.spine.result c.second.result
    c.pick_start.result c.random_word.ensures c.spine.ensures.spine c.second.ensures.second c.pick_start.ensures.value in
    some_same _ _ _ c.in-Some.is found

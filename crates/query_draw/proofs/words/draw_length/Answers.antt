use Rattle.std.proofs.Common.{◌≡◌, ◌+◌, sym, ap, ◌∙◌, arith}
use Rattle.seeded_draw.specs.Draw.{word}
use Rattle.seeded_draw.specs.Place.{Place}
use Rattle.query_draw.specs.Drawn.{word_place, symbol_place}
use Rattle.query_draw.specs.Drawers.{random_words, draws_at}
use Rattle.query_draw.proofs.PutLemmas.{stream_words, length_found, some_same, some_none}
use Rattle.query_draw.proofs.words.draw_length.Goals as goal

pub unreachable-requires : goal.unreachable-requires
unreachable-requires c =
    let d = c.args.drawer.now in
    let drawn = c.next-w.ensures.value ∙ ap (λ x. word x.seed x.stream x.taken) c.requires.draws in
    let found =
    length_found d.reach.now (random_words d) c.args.leg c.args.i c.args.j c.next-w.result d.workload.now.length c.pick_length.result
    (stream_words d.seed d.stream) c.requires.leg (sym d.lengths_are) drawn c.pick_length.ensures.value in
    some_none _ _ found c.in-None.is

pub returns-clause-draws : goal.returns-clause-draws
returns-clause-draws c =
    let next : word_place c.args.i c.args.j + 1 ≡ symbol_place c.args.i c.args.j = omega arith in
    let more : Place → Place = λ x. record x { taken = x.taken + 1 } in
    c.next-w.ensures.taken ∙ (ap more c.requires.draws ∙ ap (draws_at c.args.drawer.now) next)

pub returns-clause-length : goal.returns-clause-length
returns-clause-length c =
    let d = c.args.drawer.now in
    let drawn = c.next-w.ensures.value ∙ ap (λ x. word x.seed x.stream x.taken) c.requires.draws in
    let found =
    length_found d.reach.now (random_words d) c.args.leg c.args.i c.args.j c.next-w.result d.workload.now.length c.pick_length.result
    (stream_words d.seed d.stream) c.requires.leg (sym d.lengths_are) drawn c.pick_length.ensures.value in
    some_same _ _ _ c.in-Some.is found

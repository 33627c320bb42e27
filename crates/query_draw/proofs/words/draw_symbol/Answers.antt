use Rattle.std.proofs.Common.{◌+◌, ap, ◌∙◌}
use Rattle.seeded_draw.specs.Draw.{word}
use Rattle.seeded_draw.specs.Place.{Place}
use Rattle.query_draw.specs.Drawers.{random_words}
use Rattle.query_draw.proofs.PutLemmas.{stream_words, symbol_found, some_same, some_none}
use Rattle.query_draw.proofs.words.draw_symbol.Goals as goal

pub unreachable-requires : goal.unreachable-requires
unreachable-requires c =
    let d = c.args.drawer.now in
    let drawn = c.next-w.ensures.value ∙ ap (λ x. word x.seed x.stream x.taken) c.requires.draws in
    let found =
    symbol_found d.schema.now (random_words d) c.args.to c.args.from c.args.left c.args.draws.now.taken c.next-w.result c.pick_symbol.result
    (stream_words d.seed d.stream) c.requires.walk drawn c.pick_symbol.ensures.value in
    some_none _ _ found c.in-None.is

pub returns-clause-draws : goal.returns-clause-draws
returns-clause-draws c =
    let more : Place → Place = λ x. record x { taken = x.taken + 1 } in
    c.next-w.ensures.taken ∙ ap more c.requires.draws

pub returns-clause-symbol : goal.returns-clause-symbol
returns-clause-symbol c =
    let d = c.args.drawer.now in
    let drawn = c.next-w.ensures.value ∙ ap (λ x. word x.seed x.stream x.taken) c.requires.draws in
    let found =
    symbol_found d.schema.now (random_words d) c.args.to c.args.from c.args.left c.args.draws.now.taken c.next-w.result c.pick_symbol.result
    (stream_words d.seed d.stream) c.requires.walk drawn c.pick_symbol.ensures.value in
    some_same _ _ _ c.in-Some.is found

use Rattle.std.proofs.Common.{◌≡◌, ◌/◌, ◌<◌, [], ◌∷◌, ◌++◌, length, get_or, ap, sym, ◌∙◌, arith}
use Rattle.std.proofs.lemmas.List.{map_more}
use Rattle.std.proofs.lemmas.Option.{get_or_from_slice_get}
use Rattle.schema_graph.specs.Symbols.{symbols_of}
use Rattle.sel_graph.specs.Steps.{symbol_place}
use Rattle.sel_graph.proofs.next_places.next_from.Goals as goal

pub loop-n-preserved : goal.loop-n-preserved
loop-n-preserved c =
    let g = c.args.schema.now in
    let symbols = symbols_of g.edges (c.args.place / 5) in
    let f = symbol_place g c.args.kind c.args.place in
    let n = c.loop-n.n in
    let symbol = c.symbol_from-symbol.result in
    let inside : n < length symbols = omega (arith, c.loop-n-test.true, c.symbol_count-n-end.ensures.count) in
    let value : c.symbol_place.result ≡ f (get_or symbols n symbol) = c.symbol_place.ensures.value ∙ ap f (sym (get_or_from_slice_get symbols n symbol symbol c.symbol_from-symbol.ensures.symbol)) in
    c.in_ok-push.ensures.items ∙ ((λ i. c.loop-n.invariant i ++ value i ∷ []) ∙ sym (map_more f symbols n symbol inside))

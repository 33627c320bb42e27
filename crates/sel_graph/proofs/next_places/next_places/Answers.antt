use Rattle.std.proofs.Common.{sym, ◌∙◌}
use Rattle.sel_algebra.specs.declared.vocabulary.Kind.TheVariants.{Fixed, Growing}
use Rattle.sel_graph.proofs.TableLemmas.{nexts_at}
use Rattle.sel_graph.proofs.next_places.next_places.Goals as goal

pub index-requires : goal.index-requires
index-requires c =
    let at = nexts_at c.args.schema.now Fixed c.args.nexts.now.fixed.items c.requires.nexts.0 c.args.from c.requires.here (sym c.in-Fixed.ensures.kind) in
    rw (c.args.nexts.now.fixed.ok.0, c.place_of-place.ensures.value) at.0

pub index-requires-in-Growing : goal.index-requires-in-Growing
index-requires-in-Growing c =
    let at = nexts_at c.args.schema.now Growing c.args.nexts.now.growing.items c.requires.nexts.1 c.args.from c.requires.here (sym c.in-Growing.ensures.kind) in
    rw (c.args.nexts.now.growing.ok.0, c.place_of-place.ensures.value) at.0

pub returns-in-Fixed : goal.returns-in-Fixed
returns-in-Fixed c =
    let at = nexts_at c.args.schema.now Fixed c.args.nexts.now.fixed.items c.requires.nexts.0 c.args.from c.requires.here (sym c.in-Fixed.ensures.kind) in
    c.as_slice.ensures ∙ ((rw c.place_of-place.ensures.value at c.index.ensures) ∙ at.1 _)

pub returns-in-Growing : goal.returns-in-Growing
returns-in-Growing c =
    let at = nexts_at c.args.schema.now Growing c.args.nexts.now.growing.items c.requires.nexts.1 c.args.from c.requires.here (sym c.in-Growing.ensures.kind) in
    c.as_slice-in-Growing.ensures ∙ ((rw c.place_of-place.ensures.value at c.index-in-Growing.ensures) ∙ at.1 _)

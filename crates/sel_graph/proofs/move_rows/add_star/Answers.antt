use Rattle.std.proofs.Common.{sym, ◌∙◌}
use Rattle.sel_graph.proofs.StepLemmas.{star_added}
use Rattle.sel_graph.proofs.move_rows.add_star.Goals as goal

pub returns-then-is_plain : goal.returns-then-is_plain
returns-then-is_plain c = λ q. rw (c.set.ensures, c.move_place.ensures.value) (star_added c.args.moves.now c.args.kind c.args.place c.args.value c.args.row.now q (sym c.is_plain.ensures ∙ c.if-is_plain.true))

use Rattle.std.proofs.Common.{ap, ◌∙◌, arith}
use Rattle.edge_match.specs.ConfigSides.{opposite}
use Rattle.edge_match.specs.DrawnDegrees.{side_total}
use Rattle.edge_match.proofs.SideLemmas.{table_total-within, side_total-drawn}
use Rattle.edge_match.proofs.drawing.opposite_total.Goals as goal

pub overflow_cast-result : goal.overflow_cast-result
overflow_cast-result c =
    let config = c.args.config.now in
    let side = opposite c.args.side in
    let total = c.in_ok-total.ensures ∙ ap (λ s. side_total config c.args.seed c.args.c s) c.opposite.ensures in
    omega (arith, total, side_total-drawn config c.args.seed c.args.c side c.requires.drawn, table_total-within config c.args.seed c.args.c side c.requires.within c.requires.drawn)

pub returns : goal.returns
returns c =
    let config = c.args.config.now in
    let total = c.in_ok-total.ensures ∙ ap (λ s. side_total config c.args.seed c.args.c s) c.opposite.ensures in
    total ∙ side_total-drawn config c.args.seed c.args.c (opposite c.args.side) c.requires.drawn

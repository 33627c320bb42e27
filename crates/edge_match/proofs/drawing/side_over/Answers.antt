use Rattle.std.proofs.Common.{◌≤◌, sym, arith}
use Rattle.edge_match.specs.DrawnDegrees.{table_total}
use Rattle.edge_match.specs.StubLimit.{stubs_most}
use Rattle.edge_match.proofs.SideLemmas.{side_over-few}
use Rattle.edge_match.proofs.GreatestLemmas.{table_total-most}
use Rattle.edge_match.proofs.drawing.side_over.Goals as goal

pub returns-then-greatest_total-le-STUBS_MOST : goal.returns-then-greatest_total-le-STUBS_MOST
returns-then-greatest_total-le-STUBS_MOST c =
    let config = c.args.config.now in
    let most = table_total-most config c.args.seed c.args.c c.args.side _ _ _ c.in_ok-table.ensures c.count_of.ensures.count c.greatest_total.ensures in
    let few : table_total config c.args.seed c.args.c c.args.side ≤ stubs_most = omega (arith, most, c.if-greatest_total-le-STUBS_MOST.true) in
    sym (side_over-few config c.args.seed c.args.c c.args.side (sym c.if-is_free.ensures.free) few)

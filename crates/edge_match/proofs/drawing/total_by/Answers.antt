use Rattle.std.proofs.Common.{◌+◌, sum, ap, sym, ◌∙◌, arith}
use Rattle.seeded_draw.specs.Draw.{word}
use Rattle.seeded_draw.specs.Place.{Place}
use Rattle.edge_match.specs.DrawnDegrees.{degree_by}
use Rattle.edge_match.proofs.DrawingLemmas.{degrees_by-none}
use Rattle.edge_match.proofs.GreatestLemmas.{sum-degrees_by-more}
use Rattle.edge_match.proofs.drawing.total_by.Goals as goal

pub loop-init : goal.loop-init
loop-init c = record {
  total = ap sum (sym (degrees_by-none c.args.table.now c.args.seed c.args.stream));
  few = omega arith;
  draws = c.new-draws.ensures;
}

pub loop-preserved : goal.loop-preserved
loop-preserved c =
    let drawn = c.next.ensures.value ∙ ap (λ d. word d.seed d.stream d.taken) c.loop.invariant.draws in
    let degree = c.degree_at.ensures.value ∙ ap (degree_by c.args.table.now) drawn in
    record {
      total = omega (arith, c.from-total.ensures, degree, c.loop.invariant.total, sum-degrees_by-more c.args.table.now c.args.seed c.args.stream c.loop.counter);
      few = omega (arith, c.from-total.ensures, c.degree_at.ensures.limit, c.loop.invariant.few);
      draws = c.next.ensures.taken ∙ ap {A = Place} {B = Place} (λ d. record d { taken = d.taken + 1 }) c.loop.invariant.draws;
    }

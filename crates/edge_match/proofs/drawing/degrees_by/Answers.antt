use Rattle.std.proofs.Common.{◌+◌, length, ap, sym, ◌∙◌, arith}
use Rattle.seeded_draw.specs.Draw.{word}
use Rattle.seeded_draw.specs.Place.{Place}
use Rattle.edge_match.specs.DrawnDegrees.{degree_by}
use Rattle.edge_match.proofs.DrawingLemmas.{degrees_by-none, degrees_by-push, length-degrees_by}
use Rattle.edge_match.proofs.drawing.degrees_by.Goals as goal

pub loop-init : goal.loop-init
loop-init c = record {
  degrees = c.in_ok-degrees.ensures.items ∙ sym (degrees_by-none c.args.table.now c.args.seed c.args.stream);
  draws = c.new-draws.ensures;
}

pub returns-clause-length : goal.returns-clause-length
returns-clause-length c = ap length c.loop.invariant.degrees ∙ length-degrees_by _ _ _ _ ∙ omega arith

pub loop-preserved : goal.loop-preserved
loop-preserved c =
    let drawn = c.next.ensures.value ∙ ap (λ d. word d.seed d.stream d.taken) c.loop.invariant.draws in
    let degree = c.degree_at.ensures.value ∙ ap (degree_by c.args.table.now) drawn in
    record {
      degrees = rw c.in_ok-push.ensures.items (degrees_by-push _ _ _ _ _ _ c.loop.invariant.degrees degree);
      draws = c.next.ensures.taken ∙ ap {A = Place} {B = Place} (λ d. record d { taken = d.taken + 1 }) c.loop.invariant.draws;
    }

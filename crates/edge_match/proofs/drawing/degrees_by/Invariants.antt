use Rattle.std.proofs.Common.{◌≡◌}
use Rattle.edge_match.specs.DrawnDegrees.{degrees_by}
use Rattle.edge_match.proofs.drawing.degrees_by.Given as goal

abbrev pub invariant-loop : goal.invariant-loop
invariant-loop l = record {
  degrees : l.degrees.items ≡ degrees_by l.table l.seed l.stream l.counter;
  draws : l.draws ≡ record { seed = l.seed; stream = l.stream; taken = l.counter };
}

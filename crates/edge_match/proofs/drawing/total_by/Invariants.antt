use Rattle.std.proofs.Common.{◌≡◌, ◌*◌, ◌≤◌, sum}
use Rattle.gm_config.specs.Limits.{degree_most}
use Rattle.edge_match.specs.DrawnDegrees.{degrees_by}
use Rattle.edge_match.proofs.drawing.total_by.Given as goal

abbrev pub invariant-loop : goal.invariant-loop
invariant-loop l = record {
  total : l.total ≡ sum (degrees_by l.table l.seed l.stream l.counter);
  few : l.total ≤ degree_most * l.counter;
  draws : l.draws ≡ record { seed = l.seed; stream = l.stream; taken = l.counter };
}

use Rattle.std.proofs.Common.{◌≡◌, ℕ, ◌<◌, length, get_or, sum}
use Rattle.edge_match.specs.FreeSide.{picked_degree}
use Rattle.edge_match.proofs.free_side.count_picks.Given as goal

abbrev pub invariant-loop : goal.invariant-loop
invariant-loop l = record {
  draws : l.draws ≡ record { seed = l.seed; stream = l.stream; taken = l.counter };
  counts : (place : ℕ) → place < length l.degrees → get_or l.degrees place 0 ≡ picked_degree l.seed l.stream (length l.degrees) l.counter place;
  total : sum l.degrees ≡ l.counter;
}

use Rattle.std.proofs.Common.{◌≡◌}
use Rattle.node_tables.specs.Tables.{rounds}
use Rattle.node_tables.proofs.rounds.repeated.Given as goal

abbrev pub invariant-loop-round : goal.invariant-loop-round
invariant-loop-round l = l.pairs ≡ rounds l.nodes l.step l._round

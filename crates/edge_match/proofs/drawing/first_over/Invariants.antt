use Rattle.std.proofs.Common.{◌≡◌, ◌<◌, ℕ, None}
use Rattle.edge_match.specs.Limit.{first_side_over}
use Rattle.edge_match.proofs.drawing.first_over.Given as goal

abbrev pub invariant-loop-c : goal.invariant-loop-c
invariant-loop-c l = (c : ℕ) → c < l.c → first_side_over l.config l.seed c ≡ None

use Rattle.std.proofs.Common.{◌≡◌, length}
use Rattle.query_terms.specs.Values.{differ}
use Rattle.workload_text.proofs.heads.differ.Given as goal

-- the numbers that are left decide
abbrev pub invariant-loop-first : goal.invariant-loop-first
invariant-loop-first l = differ l.numbers ≡ differ l.left

abbrev pub decreases-loop-first : goal.decreases-loop-first
decreases-loop-first l = length l.left

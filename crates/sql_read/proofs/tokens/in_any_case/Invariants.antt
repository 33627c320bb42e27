use Rattle.std.proofs.Common.{◌≡◌, length}
use Rattle.sql_read.specs.Tokens.{in_any_case}
use Rattle.sql_read.proofs.tokens.in_any_case.Given as goal

abbrev pub invariant-loop-rest : goal.invariant-loop-rest
invariant-loop-rest l = in_any_case l.fn.run l.fn.word ≡ in_any_case l.rest l.left

abbrev pub decreases-loop-rest : goal.decreases-loop-rest
decreases-loop-rest l = length l.rest

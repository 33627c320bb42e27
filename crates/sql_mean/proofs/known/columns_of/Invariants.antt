use Rattle.std.proofs.Common.{◌≡◌, length}
use Rattle.sql_read.specs.Conditions.{columns_of}
use Rattle.sql_mean.specs.Evaluation.{headers_in}
use Rattle.sql_mean.proofs.known.columns_of.Given as goal

abbrev pub invariant-loop-rest : goal.invariant-loop-rest
invariant-loop-rest l = columns_of (headers_in l.rest) l.name ≡ columns_of (headers_in l.known) l.name

abbrev pub decreases-loop-rest : goal.decreases-loop-rest
decreases-loop-rest l = length l.rest

use Rattle.sql_read.specs.Scope.{found_in}
use Rattle.sql_read.proofs.ScopeLemmas.{Aliases}
use Rattle.sql_read.proofs.scope.aliases_of.Given as goal

abbrev pub invariant-loop-i : goal.invariant-loop-i
invariant-loop-i l = Aliases l.scope (found_in l.aliases) l.froms l.i

abbrev pub decreases-loop-i : goal.decreases-loop-i
decreases-loop-i l = l.i

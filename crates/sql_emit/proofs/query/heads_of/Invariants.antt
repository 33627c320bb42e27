use Rattle.std.proofs.Common.{◌≡◌, take}
use Rattle.sql_emit.proofs.query.heads_of.Given as goal

abbrev pub invariant-loop-variable : goal.invariant-loop-variable
invariant-loop-variable l = l.found.items ≡ take l.variable-index (take l.fn.heads.count l.fn.heads.vars)

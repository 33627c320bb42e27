use Rattle.std.proofs.Common.{◌≡◌, Some, slice_get, take, drop}
use Rattle.gm_text.specs.declared.lists.Span.{Span}
use Rattle.sparql_mean.specs.Joins.{mappings}
use Rattle.sparql_mean.proofs.queries.mappings.Given as goal

abbrev pub invariant-loop-i : goal.invariant-loop-i
invariant-loop-i l = (group : Span) → slice_get l.query.groups l.g ≡ Some group → l.all.items ≡ mappings l.tables (take l.i (drop group.first l.query.patterns))

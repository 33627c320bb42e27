use Rattle.std.proofs.Common.{◌≡◌, List, length}
use Rattle.std.specs.List.{list_all}
use Rattle.sql_read.specs.Conditions.{Header, query_holds}
use Rattle.sql_read.specs.Kept.{AllFit, QueryFits}
use Rattle.sql_read.specs.Parsed.{kept_of}
use Rattle.sql_read.specs.Scope.{Knows}
use Rattle.sql_read.specs.Checks.{queries_in}
use Rattle.sql_read.proofs.conditions.queries_hold.Given as goal

abbrev pub invariant-loop-select : goal.invariant-loop-select
invariant-loop-select l = record {
  fit : AllFit (λ s. QueryFits s (kept_of l.lists)) l.rest;
  same : (headers : List Header) → Knows l.scope headers
      → list_all (query_holds headers) (queries_in (kept_of l.lists) l.fn.selects) ≡ list_all (query_holds headers) (queries_in (kept_of l.lists) l.rest);
}

abbrev pub decreases-loop-select : goal.decreases-loop-select
decreases-loop-select l = length l.rest

use Rattle.std.proofs.Common.{◌≡◌, ◌<◌, ℕ, true}
use Rattle.query_draw.specs.Query.{has_query}
use Rattle.query_draw.proofs.missing.first_missing.Given as goal

abbrev pub invariant-loop-query : goal.invariant-loop-query
invariant-loop-query l = record { before : (n : ℕ) → n < l.query → has_query l.config l.seed n ≡ true }

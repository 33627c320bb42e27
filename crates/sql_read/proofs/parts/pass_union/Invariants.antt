use Rattle.std.proofs.Common.{◌≡◌, ◌≤◌, length}
use Rattle.sql_read.specs.View.{heard}
use Rattle.sql_read.specs.Parsed.{kept_of, IsPaid, KeepsTables}
use Rattle.sql_read.proofs.PartLemmas.{UnionListing}
use Rattle.sql_read.proofs.parts.pass_union.Given as goal

abbrev pub invariant-loop-select : goal.invariant-loop-select
invariant-loop-select l = record {
  first : l.first ≡ length l.fn.lists.selects.items;
  listing : UnionListing (kept_of l.fn.lists) (kept_of l.lists) (heard l.fn.cursor.rest.now) (heard l.cursor.rest.now);
  paid : IsPaid l.fn.lists l.lists (length l.fn.cursor.rest.now) (length l.cursor.rest.now);
  others : KeepsTables l.fn.lists l.lists;
  longer : length l.fn.lists.selects.items ≤ length l.lists.selects.items;
}

abbrev pub decreases-loop-select : goal.decreases-loop-select
decreases-loop-select l = length l.cursor.rest.now

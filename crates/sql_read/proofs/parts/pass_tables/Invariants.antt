use Rattle.std.proofs.Common.{length}
use Rattle.sql_read.specs.View.{heard}
use Rattle.sql_read.specs.Parsed.{kept_of, IsPaid}
use Rattle.sql_read.proofs.PartLemmas.{TableListing}
use Rattle.sql_read.proofs.parts.pass_tables.Given as goal

abbrev pub invariant-loop-table : goal.invariant-loop-table
invariant-loop-table l = record {
  listing : TableListing (kept_of l.fn.lists) (kept_of l.lists) (heard l.fn.cursor.rest.now) (heard l.cursor.rest.now);
  paid : IsPaid l.fn.lists l.lists (length l.fn.cursor.rest.now) (length l.cursor.rest.now);
}

abbrev pub decreases-loop-table : goal.decreases-loop-table
decreases-loop-table l = length l.cursor.rest.now

use Rattle.std.proofs.Common.{◌≡◌, ◌≤◌, length}
use Rattle.sql_read.specs.declared.tokens.Mark.TheVariants.{Comma}
use Rattle.sql_read.specs.Tokens.{Fixed}
use Rattle.sql_read.specs.Grammar.{col_then}
use Rattle.sql_read.specs.View.{heard, col_view}
use Rattle.sql_read.specs.Parsed.{kept_of, IsPaid, KeepsSelects}
use Rattle.sql_read.proofs.GrammarLemmas.{cols_are_one}
use Rattle.sql_read.proofs.ListLemmas.{LeafListing}
use Rattle.sql_read.proofs.lists.pass_cols.Given as goal

abbrev pub invariant-loop-col : goal.invariant-loop-col
invariant-loop-col l = record {
  first : l.first ≡ length l.fn.lists.columns.items;
  listing : LeafListing col_then (Fixed Comma) cols_are_one col_view (λ k. k.columns) (λ a b e. e.columns) (kept_of l.fn.lists) (kept_of l.lists)
      (heard l.fn.cursor.rest.now) (heard l.cursor.rest.now);
  paid : IsPaid l.fn.lists l.lists (length l.fn.cursor.rest.now) (length l.cursor.rest.now);
  others : KeepsSelects l.fn.lists l.lists;
  longer : length l.fn.lists.columns.items ≤ length l.lists.columns.items;
}

abbrev pub decreases-loop-col : goal.decreases-loop-col
decreases-loop-col l = length l.cursor.rest.now

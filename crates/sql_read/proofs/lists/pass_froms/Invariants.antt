use Rattle.std.proofs.Common.{◌≡◌, ◌≤◌, length}
use Rattle.sql_read.specs.declared.tokens.Mark.TheVariants.{Comma}
use Rattle.sql_read.specs.Tokens.{Fixed}
use Rattle.sql_read.specs.Grammar.{source_then}
use Rattle.sql_read.specs.View.{heard, source_view}
use Rattle.sql_read.specs.Parsed.{kept_of, IsPaid, KeepsSelects}
use Rattle.sql_read.proofs.GrammarLemmas.{froms_are_one}
use Rattle.sql_read.proofs.ListLemmas.{LeafListing}
use Rattle.sql_read.proofs.lists.pass_froms.Given as goal

abbrev pub invariant-loop-from : goal.invariant-loop-from
invariant-loop-from l = record {
  first : l.first ≡ length l.fn.lists.froms.items;
  listing : LeafListing source_then (Fixed Comma) froms_are_one source_view (λ k. k.froms) (λ a b e. e.froms) (kept_of l.fn.lists) (kept_of l.lists)
      (heard l.fn.cursor.rest.now) (heard l.cursor.rest.now);
  paid : IsPaid l.fn.lists l.lists (length l.fn.cursor.rest.now) (length l.cursor.rest.now);
  others : KeepsSelects l.fn.lists l.lists;
  longer : length l.fn.lists.froms.items ≤ length l.lists.froms.items;
}

abbrev pub decreases-loop-from : goal.decreases-loop-from
decreases-loop-from l = length l.cursor.rest.now

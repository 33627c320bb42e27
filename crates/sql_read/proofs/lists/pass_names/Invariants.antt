use Rattle.std.proofs.Common.{◌≡◌, ◌≤◌, length}
use Rattle.sql_read.specs.declared.tokens.Mark.TheVariants.{Comma}
use Rattle.sql_read.specs.Tokens.{Fixed}
use Rattle.sql_read.specs.Grammar.{word_then}
use Rattle.sql_read.specs.View.{heard, name_view}
use Rattle.sql_read.specs.Parsed.{kept_of, IsPaid, KeepsSelects}
use Rattle.sql_read.proofs.GrammarLemmas.{words_are_one}
use Rattle.sql_read.proofs.ListLemmas.{LeafListing}
use Rattle.sql_read.proofs.lists.pass_names.Given as goal

abbrev pub invariant-loop-name : goal.invariant-loop-name
invariant-loop-name l = record {
  first : l.first ≡ length l.fn.lists.names.items;
  listing : LeafListing word_then (Fixed Comma) words_are_one name_view (λ k. k.names) (λ a b e. e.names) (kept_of l.fn.lists) (kept_of l.lists)
      (heard l.fn.cursor.rest.now) (heard l.cursor.rest.now);
  paid : IsPaid l.fn.lists l.lists (length l.fn.cursor.rest.now) (length l.cursor.rest.now);
  others : KeepsSelects l.fn.lists l.lists;
  longer : length l.fn.lists.names.items ≤ length l.lists.names.items;
}

abbrev pub decreases-loop-name : goal.decreases-loop-name
decreases-loop-name l = length l.cursor.rest.now

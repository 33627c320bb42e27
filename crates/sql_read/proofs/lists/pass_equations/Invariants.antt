use Rattle.std.proofs.Common.{◌≡◌, ◌≤◌, length}
use Rattle.sql_read.specs.declared.tokens.Mark.TheVariants.{And}
use Rattle.sql_read.specs.Tokens.{Fixed}
use Rattle.sql_read.specs.Grammar.{equation_then}
use Rattle.sql_read.specs.View.{heard, equation_view}
use Rattle.sql_read.specs.Parsed.{kept_of, IsPaid, KeepsSelects}
use Rattle.sql_read.proofs.GrammarLemmas.{equations_are_one}
use Rattle.sql_read.proofs.ListLemmas.{LeafListing}
use Rattle.sql_read.proofs.lists.pass_equations.Given as goal

abbrev pub invariant-loop-equation : goal.invariant-loop-equation
invariant-loop-equation l = record {
  first : l.first ≡ length l.fn.lists.equations.items;
  listing : LeafListing equation_then (Fixed And) equations_are_one equation_view (λ k. k.equations) (λ a b e. e.equations) (kept_of l.fn.lists) (kept_of l.lists)
      (heard l.fn.cursor.rest.now) (heard l.cursor.rest.now);
  paid : IsPaid l.fn.lists l.lists (length l.fn.cursor.rest.now) (length l.cursor.rest.now);
  others : KeepsSelects l.fn.lists l.lists;
  longer : length l.fn.lists.equations.items ≤ length l.lists.equations.items;
}

abbrev pub decreases-loop-equation : goal.decreases-loop-equation
decreases-loop-equation l = length l.cursor.rest.now

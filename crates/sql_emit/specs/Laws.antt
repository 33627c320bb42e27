-- The law of the text: it says what it is to say.
--   ArePrintable terms rules          terms and rules that have a text
--   HasReading text terms rules       the text says the tables of the terms, and the selects of the rules
--   TextHasReading                    so does the text of terms and rules
use Rattle.std.specs.Prelude.{◌≡◌, ℕ, ◌+◌, ◌<◌, ◌^◌, Bool, true, nat_lt, List, length, Some, slice_get}
use Rattle.std.specs.List.{list_all}
use Rattle.query_terms.specs.declared.terms.Term.{Term}
use Rattle.query_terms.specs.declared.terms.Term.TheVariants.{Step}
use Rattle.query_terms.specs.Store.{IsStore}
use Rattle.sql_read.specs.Text.{IsSql}
use Rattle.sql_emit.specs.declared.links.LinkRule.{LinkRule}
use Rattle.sql_emit.specs.Rules.{are_link_rules}
use Rattle.sql_emit.specs.Reading.{nodes_table, printed_of}
use Rattle.sql_emit.specs.Text.{links_text_of}

-- the label of a step is a number of SQL texts
abbrev pub label_fits : Term → Bool
label_fits (Step label back) = nat_lt label (2 ^ 32)
label_fits term = true

-- the links can be counted
abbrev pub has_few_links : LinkRule → Bool
has_few_links r = nat_lt (length r.links) (2 ^ 64)

-- terms that come after their children, and rules over them
pub record ArePrintable (terms : List Term) (rules : List LinkRule) : Type 0 where
  pub store : IsStore terms
  pub few_terms : length terms < 2 ^ 64
  pub labels_fit : list_all label_fits terms ≡ true
  pub rules_are : are_link_rules (length terms) rules ≡ true
  pub few_links : list_all has_few_links rules ≡ true

-- the text has the reading, whose tables are that of the nodes and one for each term
pub record HasReading (text : List ℕ) (terms : List Term) (rules : List LinkRule) : Type 0 where
  pub reading : IsSql text (printed_of terms rules)
  pub count : length (printed_of terms rules).tables ≡ length terms + 1
  pub first : slice_get (printed_of terms rules).tables 0 ≡ Some nodes_table

abbrev pub TextHasReading : Type 0
TextHasReading = (terms : List Term) (rules : List LinkRule) → ArePrintable terms rules → HasReading (links_text_of terms rules) terms rules

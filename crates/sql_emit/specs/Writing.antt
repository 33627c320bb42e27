-- How far a text is written.
--   lead i separator               what stands before item i of a list
--   lines_left n terms             the lines of the terms from number n on, each behind the end of the line before it
--   column_view column             a column of a rule
--   joint is_first                 what stands before an equation
--   link_of c, link_rule_in conjuncts r   a conjunct and a rule of a query, as a link and as a rule of links
--   AreEnds occurrences ends       the first columns of the variables, and the equations of the others
use Rattle.std.specs.Prelude.{◌≡◌, ℕ, Bool, true, false, ◌==◌, ◌&&◌, if◌then◌else◌, Option, List, [], ◌++◌, map, codes}
use Rattle.std.specs.List.{flat_map}
use Rattle.std.specs.Option.{option_map}
use Rattle.indexmap.specs.IndexMap.{get_by}
use Rattle.query_terms.specs.declared.terms.Term.{Term}
use Rattle.query_terms.specs.declared.terms.Conjunct.{Conjunct}
use Rattle.query_terms.specs.declared.terms.Rule.{Rule}
use Rattle.query_terms.specs.Spans.{cut, lies}
use Rattle.query_terms.specs.Lists.{heads_in, is_heads}
use Rattle.sql_emit.specs.Numbered.{with_numbers}
use Rattle.sql_read.specs.Grammar.{Col}
use Rattle.sql_emit.specs.declared.links.Link.{Link}
use Rattle.sql_emit.specs.declared.links.LinkRule.{LinkRule}
use Rattle.sql_emit.specs.declared.columns.End.{End}
use Rattle.sql_emit.specs.declared.columns.End.TheVariants.{Src, Trg}
use Rattle.sql_emit.specs.declared.columns.Column.{Column}
use Rattle.sql_emit.specs.declared.columns.Ends.{Ends}
use Rattle.sql_emit.specs.Reading.{alias_name, col, Occurrence, first_of, equations_from}
use Rattle.sql_emit.specs.Text.{term_line, where_text}

-- nothing before the first, and the separator before each other one
abbrev pub lead : ℕ → List ℕ → List ℕ
lead i separator = if i == 0 then [] else separator

abbrev pub lines_left : ℕ → List Term → List ℕ
lines_left n terms = flat_map (λ line. codes ",\n" ++ line) (map term_line (with_numbers n terms))

abbrev pub end_name : End → List ℕ
end_name Src = codes "src"
end_name Trg = codes "trg"

abbrev pub column_view : Column → Col
column_view column = col (alias_name column.link) (end_name column.end)

-- a variable that stands in a column
abbrev pub occurrence : ℕ → Column → Occurrence
occurrence variable column = record { variable = variable; at = column_view column }

abbrev pub joint : Bool → List ℕ
joint true = codes " WHERE "
joint false = codes " AND "

-- the column in which a variable stands first
abbrev pub column_of : Ends → ℕ → Option Column
column_of ends v = get_by (λ k. v == k) ends.firsts

pub record AreEnds (occurrences : List Occurrence) (ends : Ends) : Type 0 where
  pub firsts : (v : ℕ) → option_map column_view (column_of ends v) ≡ first_of occurrences v
  pub equations : ends.equations.items ≡ where_text (equations_from [] occurrences)

-- a conjunct of a query, as a link
abbrev pub link_of : Conjunct → Link
link_of c = record { src = c.src; term = c.term; trg = c.trg }

-- a rule of a query, as a rule of links
abbrev pub link_rule_in : List Conjunct → Rule → LinkRule
link_rule_in conjuncts r = record { heads = heads_in r.heads; links = map link_of (cut conjuncts r.conjuncts) }

-- a rule whose conjuncts are some of so many, and whose heads are so many as it can have
abbrev pub is_rule_of : ℕ → Rule → Bool
is_rule_of conjuncts r = lies conjuncts r.conjuncts && is_heads r.heads

-- What a caller sees of a text that was read.
--   Whole             the lists, and the part of the selects that is the last union
--   IsWhole whole     each part lies within its list, no list has more than 16,777,216 entries, and what the text says meets the conditions
--   reading_of whole  what the text says
use Rattle.std.specs.Prelude.{◌≡◌, ◌≤◌, ℕ, true, List, length}
use Rattle.std.specs.Borrow.{Bor}
use Rattle.gm_text.specs.declared.lists.Span.{Span}
use Rattle.sql_read.specs.Grammar.{Reading}
use Rattle.sql_read.specs.Conditions.{holds}
use Rattle.sql_read.specs.declared.query.Col.{Col}
use Rattle.sql_read.specs.declared.query.SqlFrom.{SqlFrom}
use Rattle.sql_read.specs.declared.query.Equation.{Equation}
use Rattle.sql_read.specs.declared.query.Select.{Select}
use Rattle.sql_read.specs.declared.query.Table.{Table}
use Rattle.sql_read.specs.Kept.{Kept, reading_in, ReadingFits}

pub record Whole : Type 0 where
  pub kept : Kept
  pub last : Span

abbrev pub whole : List Col → List SqlFrom → List Equation → List (Bor (List ℕ)) → List Select → List Table → Span → Whole
whole columns froms equations names selects tables last = record {
  kept = record { columns = columns; froms = froms; equations = equations; names = names; selects = selects; tables = tables };
  last = last;
}

abbrev pub reading_of : Whole → Reading
reading_of w = reading_in w.last w.kept

pub record IsWhole (w : Whole) : Type 0 where
  pub fits : ReadingFits w.last w.kept
  pub conditions : holds (reading_in w.last w.kept) ≡ true
  pub columns : length w.kept.columns ≤ 16777216
  pub froms : length w.kept.froms ≤ 16777216
  pub equations : length w.kept.equations ≤ 16777216
  pub names : length w.kept.names ≤ 16777216
  pub selects : length w.kept.selects ≤ 16777216
  pub tables : length w.kept.tables ≤ 16777216

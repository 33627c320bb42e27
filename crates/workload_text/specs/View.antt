-- How values in memory stand for those of the definitions.
--   PartsValue, parts_left p    what is left of bytes that are cut at a separator, and its parts
--   asked_view, line_view       what a query asks for, and what a line says
use Rattle.std.specs.Prelude.{◌≡◌, ℕ, Bool, true, ◌&&◌, List, [], map, drop, Option, Some, None}
use Rattle.std.specs.List.{slice_split, list_all}
use Rattle.gm_text.specs.Lines.{is_byte}
use Rattle.workload_text.specs.Lines.{Asked, WorkLine}
use Rattle.workload_text.specs.Lines.WorkLine.{FirstLine, LabelLine, TypeLine, EdgeLine, QueryLine, RuleLine, ConjunctLine, EndLine}
use Rattle.gm_text.specs.Name.{is_name}
use Rattle.gm_text.specs.Decimal.{is_canonical}
use Rattle.workload_text.specs.Forms.{read_union, are_numbers, is_variable, is_union_word}
use Rattle.workload_text.specs.declared.sorts.Sort.{Sort}
use Rattle.workload_text.specs.declared.sorts.Sort.TheVariants.{First, Label, NodeType, Edge, Query, Rule, Conjunct, End}
use Rattle.workload_text.specs.declared.written.Asked as asked
use Rattle.workload_text.specs.declared.written.Written.{Written}
use Rattle.workload_text.specs.declared.written.Written.TheVariants as code

-- the separator, and what is left
pub record PartsValue : Type 0 where
  pub separator : ℕ
  pub rest : Option (List ℕ)

-- after the last part nothing is left, and no part
abbrev pub parts_of : ℕ → Option (List ℕ) → List (List ℕ)
parts_of separator None = []
parts_of separator (Some rest) = slice_split (is_byte separator) rest

-- the parts of what is left
abbrev pub parts_left : PartsValue → List (List ℕ)
parts_left p = parts_of p.separator p.rest

-- what a query asks for
abbrev pub asked_view : asked.Asked → Asked
asked_view a = record { shape = a.shape; class = a.class; wide = a.wide }

-- what a line says
abbrev pub line_view : Written → WorkLine
line_view (code.First format) = FirstLine format
line_view (code.Label name) = LabelLine name.now
line_view (code.NodeType name kind) = TypeLine name.now kind
line_view (code.Edge source label target op) = EdgeLine source.now label.now target.now op
line_view (code.Query number asked) = QueryLine number.now (asked_view asked)
line_view (code.Rule words) = RuleLine (map (drop 1) words)
line_view (code.Conjunct src trg star words) = ConjunctLine src.now trg.now star (read_union words.now)
line_view code.End = EndLine

-- the sort of a line
abbrev pub sort_view : Written → Sort
sort_view (code.First format) = First
sort_view (code.Label name) = Label
sort_view (code.NodeType name kind) = NodeType
sort_view (code.Edge source label target op) = Edge
sort_view (code.Query number asked) = Query
sort_view (code.Rule words) = Rule
sort_view (code.Conjunct src trg star words) = Conjunct
sort_view code.End = End

-- the names and decimals of a line have their forms
abbrev pub is_written : Written → Bool
is_written (code.First format) = true
is_written (code.Label name) = is_name name.now
is_written (code.NodeType name kind) = is_name name.now
is_written (code.Edge source label target op) = are_numbers source.now label.now target.now
is_written (code.Query number asked) = is_canonical number.now
is_written (code.Rule words) = list_all is_variable words
is_written (code.Conjunct src trg star words) = is_canonical src.now && is_canonical trg.now && is_union_word words.now
is_written code.End = true

-- a line of this sort, in its form
pub record IsOfSort (s : Sort) (line : Written) : Type 0 where
  pub sort : sort_view line ≡ s
  pub form : is_written line ≡ true

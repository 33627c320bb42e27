-- The lines of a workload text: what each says, and how it is written.
--   WorkLine              what a line says; its numbers stand as they are written
--   kind_word .. class_word   the words of kinds, operators, shapes and classes
--   line_words line       the words of a line
--   line_bytes line       its bytes, without the LF that ends it
--   is_line format line   its names, decimals and counts have their form
--   lines_text lines      lines, each with its LF
--   head_lines h          the lines of a head
--   query_lines n q       those of the query with a number
--   work_lines v          those of a head and queries, with the last line
--   work_text v           the text of these
--   IsReading text v      the grammar: the text is that of a head and queries that keep the rules
use Rattle.std.specs.Prelude.{◌≡◌, ℕ, ◌+◌, ◌==◌, Bool, true, false, not, ◌&&◌, ◌||◌, nat_lt, if◌then◌else◌, List, [], ◌∷◌, ◌++◌, length, map, codes, decimal, Option, Some, None, is_some}
use Rattle.std.specs.List.{list_all, join_with_byte, flat_map}
use Rattle.gm_text.specs.Name.{is_name}
use Rattle.gm_text.specs.Decimal.{is_canonical}
use Rattle.sel_algebra.specs.declared.vocabulary.Op.{Op}
use Rattle.sel_algebra.specs.declared.vocabulary.Op.TheVariants.{Equal, Less, Greater, Diamond, Cross}
use Rattle.sel_algebra.specs.declared.vocabulary.Kind.{Kind}
use Rattle.sel_algebra.specs.declared.vocabulary.Kind.TheVariants.{Fixed, Growing}
use Rattle.sel_algebra.specs.declared.vocabulary.Class.{Class}
use Rattle.sel_algebra.specs.declared.vocabulary.Class.TheVariants.{Constant, Linear, Quadratic}
use Rattle.sel_algebra.specs.declared.vocabulary.Shape.{Shape}
use Rattle.sel_algebra.specs.declared.vocabulary.Shape.TheVariants.{Chain, Star, Cycle, StarChain}
use Rattle.sel_algebra.specs.declared.vocabulary.Symbol.{Symbol}
use Rattle.schema_graph.specs.declared.edge.SchemaEdge.{SchemaEdge}
use Rattle.query_terms.specs.Values.{ConjunctValue, RuleValue, QueryValue}
use Rattle.workload_text.specs.Values.{HeadValue, WorkValue, IsWork}

-- a symbol: whether it is against its edge, and the edge's number as it is written
pub record WrittenSymbol : Type 0 where
  pub back : Bool
  pub number : List ℕ

-- what a query asks for
pub record Asked : Type 0 where
  pub shape : Shape
  pub class : Option Class
  pub wide : Option Class

-- what a line says
pub data WorkLine : Type 0 where
  FirstLine : (format : ℕ) → WorkLine
  LabelLine : (name : List ℕ) → WorkLine
  TypeLine : (name : List ℕ) (kind : Kind) → WorkLine
  EdgeLine : (source label target : List ℕ) (op : Op) → WorkLine
  QueryLine : (number : List ℕ) (asked : Asked) → WorkLine
  RuleLine : (heads : List (List ℕ)) → WorkLine
  ConjunctLine : (src trg : List ℕ) (star : Bool) (words : List (List WrittenSymbol)) → WorkLine
  EndLine : WorkLine

-- ---- words

-- the word of a format
abbrev pub format_word : ℕ → List ℕ
format_word format = if format == 2 then codes "2" else codes "1"

-- the word of a kind
abbrev pub kind_word : Kind → List ℕ
kind_word Fixed = codes "fixed"
kind_word Growing = codes "growing"

-- the word of an operator
abbrev pub op_word : Op → List ℕ
op_word Equal = codes "="
op_word Less = codes "<"
op_word Greater = codes ">"
op_word Diamond = codes "<>"
op_word Cross = codes "x"

-- the word of a shape
abbrev pub shape_word : Shape → List ℕ
shape_word Chain = codes "chain"
shape_word Star = codes "star"
shape_word Cycle = codes "cycle"
shape_word StarChain = codes "starchain"

-- the word of a class
abbrev pub class_word : Class → List ℕ
class_word Constant = codes "constant"
class_word Linear = codes "linear"
class_word Quadratic = codes "quadratic"

-- the word of a class, or `none`
abbrev pub class_or_none : Option Class → List ℕ
class_or_none None = codes "none"
class_or_none (Some class) = class_word class

-- a variable: `x` and its number
abbrev pub variable_word : List ℕ → List ℕ
variable_word number = 120 ∷ number

-- a symbol: the number of its edge, after `^` where it is against the edge
abbrev pub symbol_word : WrittenSymbol → List ℕ
symbol_word s = if s.back then 94 ∷ s.number else s.number

-- a word of a conjunct: its symbols, joined by `.`
abbrev pub path_word : List WrittenSymbol → List ℕ
path_word symbols = join_with_byte 46 (map symbol_word symbols)

-- the words of a conjunct, joined by `+`
abbrev pub union_word : List (List WrittenSymbol) → List ℕ
union_word words = join_with_byte 43 (map path_word words)

-- the words, within `(` and `)*` where they are repeated
abbrev pub expr_word : Bool → List (List WrittenSymbol) → List ℕ
expr_word false words = union_word words
expr_word true words = 40 ∷ (union_word words ++ codes ")*")

-- ---- lines

-- the words of a line
abbrev pub line_words : WorkLine → List (List ℕ)
line_words (FirstLine format) = codes "gmark-workload" ∷ format_word format ∷ []
line_words (LabelLine name) = codes "label" ∷ name ∷ []
line_words (TypeLine name kind) = codes "type" ∷ name ∷ kind_word kind ∷ []
line_words (EdgeLine source label target op) = codes "edge" ∷ source ∷ label ∷ target ∷ op_word op ∷ []
line_words (QueryLine number asked) =
    codes "query" ∷ number ∷ shape_word asked.shape ∷ class_or_none asked.class ∷ class_or_none asked.wide ∷ []
line_words (RuleLine heads) = codes "rule" ∷ map variable_word heads
line_words (ConjunctLine src trg star words) = variable_word src ∷ expr_word star words ∷ variable_word trg ∷ []
line_words EndLine = codes "end" ∷ []

-- the words, with one space between two of them
abbrev pub line_bytes : WorkLine → List ℕ
line_bytes line = join_with_byte 32 (line_words line)

-- a symbol, and symbols, of canonical decimals
abbrev pub is_symbol : WrittenSymbol → Bool
is_symbol s = is_canonical s.number

abbrev pub is_path : List WrittenSymbol → Bool
is_path symbols = nat_lt 0 (length symbols) && list_all is_symbol symbols

-- words of such symbols
abbrev pub is_union : List (List WrittenSymbol) → Bool
is_union words = nat_lt 0 (length words) && list_all is_path words

-- format 1 or 2
abbrev pub is_format : ℕ → Bool
is_format format = (format == 1) || (format == 2)

-- in format 1 there are classes
abbrev pub has_classes_of : ℕ → Asked → Bool
has_classes_of format asked = not (format == 1) || (is_some asked.class && is_some asked.wide)

-- in format 1 there are two heads
abbrev pub has_heads_of : ℕ → ℕ → Bool
has_heads_of format heads = not (format == 1) || (heads == 2)

-- what has a form of its own in a line has it
abbrev pub is_line : ℕ → WorkLine → Bool
is_line format (FirstLine own) = is_format own
is_line format (LabelLine name) = is_name name
is_line format (TypeLine name kind) = is_name name
is_line format (EdgeLine source label target op) = is_canonical source && is_canonical label && is_canonical target
is_line format (QueryLine number asked) = is_canonical number && has_classes_of format asked
is_line format (RuleLine heads) = has_heads_of format (length heads) && list_all is_canonical heads
is_line format (ConjunctLine src trg star words) = is_canonical src && is_canonical trg && is_union words
is_line format EndLine = true

-- each line, with its LF
abbrev pub lines_text : List WorkLine → List ℕ
lines_text lines = flat_map (λ line. line_bytes line ++ 10 ∷ []) lines

-- ---- the lines of a value

-- the line of a label
abbrev pub label_lines : List (List ℕ) → List WorkLine
label_lines names = map LabelLine names

-- the line of a type
abbrev pub type_lines : List (List ℕ) → List Kind → List WorkLine
type_lines (name ∷ names) (kind ∷ kinds) = TypeLine name kind ∷ type_lines names kinds
type_lines names kinds = []

-- the line of an edge
abbrev pub edge_line : SchemaEdge → WorkLine
edge_line e = EdgeLine (decimal e.source) (decimal e.label) (decimal e.target) e.op

-- the lines of a head
abbrev pub head_lines : HeadValue → List WorkLine
head_lines h = FirstLine h.format
    ∷ (label_lines h.labels ++ (type_lines h.types h.schema.kinds ++ map edge_line h.schema.edges))

-- a symbol with the decimal of its edge
abbrev pub written : Symbol → WrittenSymbol
written s = record { back = s.back; number = decimal s.edge }

-- the line of a conjunct
abbrev pub conjunct_line : ConjunctValue → WorkLine
conjunct_line c = ConjunctLine (decimal c.src) (decimal c.trg) c.star (map (map written) c.words)

-- the lines of a rule
abbrev pub rule_lines : RuleValue → List WorkLine
rule_lines r = RuleLine (map decimal r.heads) ∷ map conjunct_line r.conjuncts

-- what a query asks for
abbrev pub asked_of : QueryValue → Asked
asked_of q = record { shape = q.shape; class = q.class; wide = q.wide }

-- the lines of a query with a number
abbrev pub query_lines : ℕ → QueryValue → List WorkLine
query_lines number q = QueryLine (decimal number) (asked_of q) ∷ flat_map rule_lines q.rules

-- the lines of queries that are numbered one after another
abbrev pub queries_lines : ℕ → List QueryValue → List WorkLine
queries_lines number [] = []
queries_lines number (q ∷ queries) = query_lines number q ++ queries_lines (number + 1) queries

-- the lines of a head and of its queries, and the last line
abbrev pub work_lines : WorkValue → List WorkLine
work_lines v = head_lines v.head ++ (queries_lines 0 v.queries ++ EndLine ∷ [])

-- their text
abbrev pub work_text : WorkValue → List ℕ
work_text v = lines_text (work_lines v)

-- the text is that of a head and queries that keep the rules
abbrev pub IsReading : List ℕ → WorkValue → Type 0
IsReading text v = IsWork v × (work_text v ≡ text)

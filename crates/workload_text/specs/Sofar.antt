-- What the lines so far of a workload text say.
--   Sofar                  that, with what is begun
--   before_all             before the first line
--   after s line           with one line more
--   ended_rules s          the rules of the query that is begun, where its last one ends here
--   ended_queries s        the queries, where the one that is begun ends here
--   value_of s             the head and the queries
use Rattle.std.specs.Prelude.{ℕ, Bool, true, false, if◌then◌else◌, List, [], ◌∷◌, ◌++◌, map, Option, Some, None}
use Rattle.std.specs.Str.Parse.{digits_value}
use Rattle.sel_algebra.specs.declared.vocabulary.Kind.{Kind}
use Rattle.sel_algebra.specs.declared.vocabulary.Symbol.{Symbol}
use Rattle.sel_algebra.specs.declared.vocabulary.Shape.TheVariants.{Chain}
use Rattle.schema_graph.specs.declared.edge.SchemaEdge.{SchemaEdge}
use Rattle.query_terms.specs.Values.{ConjunctValue, RuleValue, QueryValue}
use Rattle.workload_text.specs.declared.sorts.Sort.{Sort}
use Rattle.workload_text.specs.declared.sorts.Sort.TheVariants.{First, Label, NodeType, Edge, Query, Rule, Conjunct, End}
use Rattle.workload_text.specs.Values.{HeadValue, WorkValue, labels_of}
use Rattle.workload_text.specs.Lines.{WrittenSymbol, Asked, WorkLine}
use Rattle.workload_text.specs.Lines.WorkLine.{FirstLine, LabelLine, TypeLine, EdgeLine, QueryLine, RuleLine, ConjunctLine, EndLine}

-- the sort of the last line; the head and the ended queries; of the query that is begun what it asks for and its ended
-- rules; and of the rule that is begun the heads and the conjuncts
pub record Sofar : Type 0 where
  pub last : Option Sort
  pub head : HeadValue
  pub queries : List QueryValue
  pub asked : Asked
  pub rules : List RuleValue
  pub heads : List ℕ
  pub conjuncts : List ConjunctValue

-- a head of which nothing was said
abbrev pub no_head : HeadValue
no_head = record { format = 0; labels = []; types = []; schema = record { kinds = []; edges = [] } }

-- a query of which nothing was said
abbrev pub no_query : Asked
no_query = record { shape = Chain; class = None; wide = None }

-- before the first line
abbrev pub before_all : Sofar
before_all = record { last = None; head = no_head; queries = []; asked = no_query; rules = []; heads = []; conjuncts = [] }

-- the number of a decimal
abbrev pub number : List ℕ → ℕ
number word = digits_value 10 word

-- the symbol with the number of its edge
abbrev pub symbol_of : WrittenSymbol → Symbol
symbol_of s = record { edge = number s.number; back = s.back }

-- the words of these symbols
abbrev pub symbols_of : List (List WrittenSymbol) → List (List Symbol)
symbols_of words = map (map symbol_of) words

-- the last line is that of a conjunct
abbrev pub after_conjunct : Option Sort → Bool
after_conjunct None = false
after_conjunct (Some First) = false
after_conjunct (Some Label) = false
after_conjunct (Some NodeType) = false
after_conjunct (Some Edge) = false
after_conjunct (Some Query) = false
after_conjunct (Some Rule) = false
after_conjunct (Some Conjunct) = true
after_conjunct (Some End) = false

-- the rule that is begun
abbrev pub open_rule : Sofar → RuleValue
open_rule s = record { heads = s.heads; conjuncts = s.conjuncts }

-- the rules of the query that is begun: the last one ends after a conjunct
abbrev pub ended_rules : Sofar → List RuleValue
ended_rules s = if after_conjunct s.last then s.rules ++ open_rule s ∷ [] else s.rules

-- the query that is begun
abbrev pub open_query : Sofar → QueryValue
open_query s = record {
  labels = labels_of s.head.schema.edges;
  shape = s.asked.shape;
  class = s.asked.class;
  wide = s.asked.wide;
  rules = ended_rules s;
}

-- the queries: the last one ends after a conjunct
abbrev pub ended_queries : Sofar → List QueryValue
ended_queries s = if after_conjunct s.last then s.queries ++ open_query s ∷ [] else s.queries

-- the schema has one edge more
abbrev pub with_edge : HeadValue → SchemaEdge → HeadValue
with_edge h e = record h { schema = record { kinds = h.schema.kinds; edges = h.schema.edges ++ e ∷ [] } }

-- a type has a name and a kind
abbrev pub with_type : HeadValue → List ℕ → Kind → HeadValue
with_type h name kind = record h {
  types = h.types ++ name ∷ [];
  schema = record { kinds = h.schema.kinds ++ kind ∷ []; edges = h.schema.edges };
}

-- with one line more
abbrev pub after : Sofar → WorkLine → Sofar
after s (FirstLine format) = record s { last = Some First; head = record s.head { format = format } }
after s (LabelLine name) = record s { last = Some Label; head = record s.head { labels = s.head.labels ++ name ∷ [] } }
after s (TypeLine name kind) = record s { last = Some NodeType; head = with_type s.head name kind }
after s (EdgeLine source label target op) = record s {
  last = Some Edge;
  head = with_edge s.head record { source = number source; label = number label; target = number target; op = op };
}
after s (QueryLine n asked) = record s {
  last = Some Query;
  queries = ended_queries s;
  asked = asked;
  rules = [];
  heads = [];
  conjuncts = [];
}
after s (RuleLine heads) = record s { last = Some Rule; rules = ended_rules s; heads = map number heads; conjuncts = [] }
after s (ConjunctLine src trg star words) = record s {
  last = Some Conjunct;
  conjuncts = s.conjuncts ++ record { src = number src; trg = number trg; star = star; words = symbols_of words } ∷ [];
}
after s EndLine = record s { last = Some End; queries = ended_queries s; rules = []; heads = []; conjuncts = [] }

-- the head and the queries
abbrev pub value_of : Sofar → WorkValue
value_of s = record { head = s.head; queries = s.queries }

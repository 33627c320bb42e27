-- The state of the reader.
--   in_query, in_rule last   a query, or a rule of it, is begun after a line of this sort
--   sofar_of r               what the lines so far say
--   IsUsable r               the state is one that the reader comes to
--   IsAccepted old line rule new   what the reader does with a line
use Rattle.std.specs.Prelude.{◌≡◌, ℕ, ◌+◌, ◌*◌, ◌<◌, ◌≤◌, ◌==◌, Bool, true, false, not, ◌||◌, if◌then◌else◌, nat_lt, List, [], ◌∷◌, length, map, Option, Some, None, is_some}
use Rattle.query_terms.specs.Values.{differ, have_heads, QueryValue}
use Rattle.query_terms.specs.Lists.{heads_in, is_heads}
use Rattle.query_terms.specs.View.{query_value}
use Rattle.query_terms.specs.declared.query.Query as code
use Rattle.workload_text.specs.declared.sorts.Sort.{Sort}
use Rattle.workload_text.specs.declared.sorts.Sort.TheVariants.{First, Label, NodeType, Edge, Query, Rule, Conjunct, End}
use Rattle.workload_text.specs.declared.state.Reading.{Reading}
use Rattle.workload_text.specs.Lines.{WorkLine}
use Rattle.workload_text.specs.Sofar.{Sofar, after, after_conjunct, ended_rules, ended_queries}
use Rattle.workload_text.specs.Rules.{broken_by_line}
use Rattle.workload_text.specs.Front.{front_view, IsFront}
use Rattle.workload_text.specs.Heads.{ends_of}
use Rattle.workload_text.specs.View.{asked_view}
use Rattle.workload_text.specs.declared.unions.Facts.{Facts}
use Rattle.query_terms.specs.Building.{begun}

-- a rule of a query is begun
abbrev pub in_rule : Option Sort → Bool
in_rule None = false
in_rule (Some First) = false
in_rule (Some Label) = false
in_rule (Some NodeType) = false
in_rule (Some Edge) = false
in_rule (Some Query) = false
in_rule (Some Rule) = true
in_rule (Some Conjunct) = true
in_rule (Some End) = false

-- a query is begun
abbrev pub in_query : Option Sort → Bool
in_query None = false
in_query (Some First) = false
in_query (Some Label) = false
in_query (Some NodeType) = false
in_query (Some Edge) = false
in_query (Some Query) = true
in_query (Some Rule) = true
in_query (Some Conjunct) = true
in_query (Some End) = false

-- the values of queries
abbrev pub values_of : List code.Query → List QueryValue
values_of queries = map query_value queries

-- what the lines so far say
abbrev pub sofar_of : Reading → Sofar
sofar_of r = record {
  last = r.last;
  head = front_view r.front;
  queries = values_of r.queries.items;
  asked = asked_view r.asked;
  rules = r.builder.rules;
  heads = heads_in r.heads;
  conjuncts = r.builder.conjuncts;
}

-- the builder has the query that is begun, whose counts and ends stand beside it
pub record IsUsable (r : Reading) : Type 0 where
  pub front : IsFront r.front
  pub free : r.builder.refused ≡ false
  pub word : r.builder.word ≡ []
  pub words : r.builder.words ≡ []
  pub labels : in_query r.last ≡ true → r.builder.labels ≡ r.front.edge_labels.items
  pub rules : r.rules ≡ length r.builder.rules
  pub few_rules : r.rules ≤ 4
  pub open_rules : in_rule r.last ≡ true → r.rules < 4
  pub ends : r.ends.items ≡ map ends_of r.builder.conjuncts
  pub begun : nat_lt 0 (length r.builder.conjuncts) ≡ after_conjunct r.last
  pub few : length r.builder.conjuncts ≤ 8
  pub taken : r.builder.taken ≤ 2048 * r.rules + 256 * length r.builder.conjuncts
  pub heads : is_heads r.heads ≡ true
  pub arity : length (heads_in r.heads) ≡ r.heads.count
  pub differ : differ (heads_in r.heads) ≡ true
  pub same : have_heads r.heads.count r.builder.rules ≡ true
  pub wide : is_some r.asked.class ≡ is_some r.asked.wide
  pub class : in_rule r.last ≡ true → is_some r.asked.class ≡ (r.heads.count == 2)
  pub queries : length r.queries.items ≤ 1000
  pub open_queries : in_query r.last ≡ true → length r.queries.items < 1000

-- the line breaks this rule, or it is taken
pub record IsAccepted (old : Sofar) (line : WorkLine) (rule : Option ℕ) (new : Reading) : Type 0 where
  pub broken : rule ≡ broken_by_line old line
  pub usable : rule ≡ None → IsUsable new
  pub value : rule ≡ None → sofar_of new ≡ after old line

-- the rule that was begun is ended, if its last line was that of a conjunct, and all else stays
pub record IsRuleEnded (old new : Reading) : Type 0 where
  pub builder : new.builder ≡ record old.builder { rules = ended_rules (sofar_of old); conjuncts = [] }
  pub count : new.rules ≡ length (ended_rules (sofar_of old))
  pub few : new.rules ≤ 4
  pub taken : new.builder.taken ≤ 2048 * new.rules
  pub ends : new.ends.items ≡ []
  pub rest : new ≡ record old { builder = new.builder; ends = new.ends; rules = new.rules }

-- the query that was begun is ended, if its last line was that of a conjunct, and the next can begin
pub record IsQueryEnded (old new : Reading) : Type 0 where
  pub queries : values_of new.queries.items ≡ ended_queries (sofar_of old)
  pub few : length new.queries.items ≤ 1000
  pub builder : new.builder ≡ begun old.front.edge_labels.items
  pub ends : new.ends.items ≡ []
  pub count : new.rules ≡ 0
  pub heads : new.heads ≡ record { count = 0; vars = 0 ∷ 0 ∷ 0 ∷ 0 ∷ [] }
  pub rest : new ≡ record old { queries = new.queries; builder = new.builder; ends = new.ends; rules = new.rules; heads = new.heads }

-- the least of the rules 6 to 8 that words break, by what was seen of them
abbrev pub broken_by_facts : Facts → Bool → Option ℕ
broken_by_facts f star = if not f.chains then Some 6
    else (if not f.same then Some 7
    else (if not (not star || f.back) then Some 8
    else None))

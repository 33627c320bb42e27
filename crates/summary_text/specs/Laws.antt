-- The laws of summaries.
--   ClassTestIsExact               a query is counted for a class just where the class is its own
--   ClassesAddUp                   the numbers of the classes add up to the number of queries, where each has a class
--   ConstraintsHaveSmallerTotal    for conforming triples each constraint's number is the smaller of its two totals
--   with_class_of o s              a class is counted, if there is one
--   QueriesAreCountedOneByOne      a query more counts for its class, and for nothing where it has none
--   ConstraintsAreCountedOneByOne  a constraint more is the next number of edges
use Rattle.std.specs.Prelude.{◌≡◌, ◌↔◌, ℕ, ◌+◌, IsTrue, List, [], ◌∷◌, ◌++◌, length, All, Option, Some, None, IsSome}
use Rattle.sel_algebra.specs.declared.vocabulary.Class.{Class}
use Rattle.graph_text.specs.declared.graphs.Triple.{Triple}
use Rattle.gm_config.specs.Config.{ConfigValue}
use Rattle.edge_match.specs.AllEdges.{AreEdgesOf}
use Rattle.edge_match.specs.ConformingGraph.{IsConforming}
use Rattle.query_terms.specs.Values.{QueryValue}
use Rattle.summary_text.specs.Summary.{SummaryValue, with_constraint, with_class, class_total}
use Rattle.summary_text.specs.Counts.{is_class, summary_with, summary_of, drawn_summary}

-- the test of a class is true of that class alone
abbrev pub ClassTestIsExact : Type 0
ClassTestIsExact = (class : Class) (o : Option Class) → IsTrue (is_class class o) ↔ (o ≡ Some class)

-- where each query has a class, the numbers of the classes add up to the number of queries
abbrev pub ClassesAddUp : Type 0
ClassesAddUp = (config : ConfigValue) (triples : List Triple) (queries : List QueryValue) → All (λ q. IsSome q.class) queries
    → class_total (summary_of config triples queries) ≡ length queries

-- where triples conform, the number of each constraint is the smaller of its two totals
abbrev pub ConstraintsHaveSmallerTotal : Type 0
ConstraintsHaveSmallerTotal = (config : ConfigValue) (seed : ℕ) (triples : List Triple) (queries : List QueryValue) → IsConforming config seed triples
    → summary_of config triples queries ≡ drawn_summary config seed (length config.constraints) queries

-- a class is counted, if there is one
abbrev pub with_class_of : Option Class → SummaryValue → SummaryValue
with_class_of None s = s
with_class_of (Some class) s = with_class class s

-- one query more counts for its class, and for nothing where it has none
abbrev pub QueriesAreCountedOneByOne : Type 0
QueriesAreCountedOneByOne = (edges : List ℕ) (queries : List QueryValue) (q : QueryValue)
    → summary_with edges (queries ++ q ∷ []) ≡ with_class_of q.class (summary_with edges queries)

-- the edges of constraint n are the next number
abbrev pub ConstraintsAreCountedOneByOne : Type 0
ConstraintsAreCountedOneByOne = (config : ConfigValue) (seed n : ℕ) (own : List Triple) (queries : List QueryValue) → AreEdgesOf config seed n own
    → drawn_summary config seed (n + 1) queries ≡ with_constraint (length own) (drawn_summary config seed n queries)

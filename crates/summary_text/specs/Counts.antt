-- The summary of a graph and of queries that are there.
--   is_class class o              a class that may be none is this one
--   queries_of_class class qs     the queries of a class
--   edge_counts config triples    for each constraint the number of the triples that are of it
--   summary_with ns qs            the summary of these numbers of edges, and of queries
--   summary_of config triples qs  the summary of triples and queries
--   smaller_totals config seed n  those of the first n constraints
--   drawn_summary config seed n qs  the first n constraints have these, and the classes are those of queries
use Rattle.std.specs.Prelude.{ℕ, Bool, true, false, List, length, map, filter, Option, Some}
use Rattle.std.specs.List.{range_with_len}
use Rattle.sel_algebra.specs.declared.vocabulary.Class.{Class}
use Rattle.sel_algebra.specs.declared.vocabulary.Class.TheVariants.{Constant, Linear, Quadratic}
use Rattle.graph_text.specs.declared.graphs.Triple.{Triple}
use Rattle.gm_config.specs.Config.{ConfigValue}
use Rattle.edge_match.specs.DrawnDegrees.{smaller_total}
use Rattle.edge_match.specs.ConformingGraph.{triples_of}
use Rattle.query_terms.specs.Values.{QueryValue}
use Rattle.summary_text.specs.Summary.{SummaryValue}

-- a class that may be none is this one
abbrev pub is_class : Class → Option Class → Bool
is_class Constant (Some Constant) = true
is_class Linear (Some Linear) = true
is_class Quadratic (Some Quadratic) = true
is_class _ _ = false

-- the queries whose class is this one
abbrev pub queries_of_class : Class → List QueryValue → List QueryValue
queries_of_class class queries = filter (λ q. is_class class q.class) queries

-- for each constraint the number of the triples that are of it
abbrev pub edge_counts : ConfigValue → List Triple → List ℕ
edge_counts config triples = map (λ c. length (triples_of config c triples)) (range_with_len 0 (length config.constraints))

-- the summary of these numbers of edges, and of queries
abbrev pub summary_with : List ℕ → List QueryValue → SummaryValue
summary_with edges queries = record {
  edges = edges;
  constant = length (queries_of_class Constant queries);
  linear = length (queries_of_class Linear queries);
  quadratic = length (queries_of_class Quadratic queries);
}

-- the summary of triples and queries
abbrev pub summary_of : ConfigValue → List Triple → List QueryValue → SummaryValue
summary_of config triples queries = summary_with (edge_counts config triples) queries

-- ---- as drawn

-- the smaller totals of the first n constraints
abbrev pub smaller_totals : ConfigValue → (seed n : ℕ) → List ℕ
smaller_totals config seed n = map (smaller_total config seed) (range_with_len 0 n)

-- the summary of the first n constraints, as they are drawn, and of queries
abbrev pub drawn_summary : ConfigValue → (seed n : ℕ) → List QueryValue → SummaryValue
drawn_summary config seed n queries = summary_with (smaller_totals config seed n) queries

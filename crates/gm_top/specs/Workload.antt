-- The workload of a configuration, and the classes of its queries.
--   queries_of config seed              the drawn queries, by their numbers
--   workload_of config seed             the head of the configuration, and these
--   queries_text config seed count       the lines of the first so many of these queries
--   all_queries_text config seed        the lines of all of them
--   HasClasses config seed number g q   the classes of a query with a number are those of its words over a schema
--   HaveClasses config seed v           so are those of each query of a workload
--   AreBounded config v                 the queries of constant wide class are bounded over the graphs of a configuration
use Rattle.std.specs.Prelude.{◌≡◌, ℕ, false, if◌then◌else◌, List, map, Some, None, slice_get}
use Rattle.std.specs.List.{range_with_len}
use Rattle.sel_algebra.specs.Entries.{ClassEntryAtMost}
use Rattle.sel_algebra.specs.declared.vocabulary.Class.TheVariants.{Constant}
use Rattle.constant_rows.specs.Bounded.{IsBounded}
use Rattle.schema_graph.specs.Schema.{SchemaValue}
use Rattle.gm_config.specs.Config.{ConfigValue}
use Rattle.query_terms.specs.Values.{QueryValue, has_class}
use Rattle.query_draw.specs.Values.{query_class}
use Rattle.query_draw.specs.Wide.{query_wide}
use Rattle.query_draw.specs.Query.{drawn_class, query_of}
use Rattle.workload_text.specs.Values.{WorkValue}
use Rattle.workload_text.specs.Head.{head_of}
use Rattle.workload_text.specs.Lines.{lines_text, queries_lines}

-- the drawn queries of a configuration, by their numbers
abbrev pub queries_of : ConfigValue → ℕ → List QueryValue
queries_of config seed = map (query_of config seed) (range_with_len 0 config.workload.queries)

-- the head of a configuration, and its drawn queries
abbrev pub workload_of : ConfigValue → ℕ → WorkValue
workload_of config seed = record { head = head_of config; queries = queries_of config seed }

-- the lines of the first so many drawn queries
abbrev pub queries_text : ConfigValue → (seed count : ℕ) → List ℕ
queries_text config seed count = lines_text (queries_lines 0 (map (query_of config seed) (range_with_len 0 count)))

-- the lines of all of them
abbrev pub all_queries_text : ConfigValue → ℕ → List ℕ
all_queries_text config seed = queries_text config seed config.workload.queries

-- With two heads, its class is that of its words over the schema and the drawn one, and is at most its wide class, which
-- is that of its words; and else it has neither.
pub record HasClasses (config : ConfigValue) (seed number : ℕ) (g : SchemaValue) (q : QueryValue) : Type 0 where
  pub class : q.class ≡ query_class g q.shape q.rules
  pub drawn : q.class ≡ (if has_class q.rules then Some (drawn_class config seed number) else None)
  pub wide : q.wide ≡ query_wide g q.shape q.rules
  pub at_most : ClassEntryAtMost q.class q.wide
  pub none : has_class q.rules ≡ false → (q.class ≡ None) × (q.wide ≡ None)

-- so each query of a workload has its classes, over the schema of its head
abbrev pub HaveClasses : ConfigValue → ℕ → WorkValue → Type 0
HaveClasses config seed v =
    (number : ℕ) (q : QueryValue) → slice_get v.queries number ≡ Some q → HasClasses config seed number v.head.schema q

-- each query of constant wide class has at most F * F rows over each graph of the configuration's types, where its types
-- with a count have F nodes together, and in these rows such nodes alone
abbrev pub AreBounded : ConfigValue → WorkValue → Type 0
AreBounded config v =
    (number : ℕ) (q : QueryValue) → slice_get v.queries number ≡ Some q → q.wide ≡ Some Constant → IsBounded config q

-- The sample and its summary.
use Rattle.std.proofs.Common.{◌≡◌, ◌∙◌, ℕ, ◌+◌, ◌^◌, ◌<◌, ◌≤◌, List, [], ◌∷◌, length, All, IsSome, refl, ap, sym, arith}
use Rattle.std.proofs.lemmas.List.Elements.{All-weaker}
use Rattle.std.proofs.lemmas.List.FromFn.{length-map-range_with_len}
use Rattle.gm_io.specs.FileList.{FileList}
use Rattle.graph_text.specs.declared.graphs.Triple.{Triple}
use Rattle.gm_config.specs.Config.{ConfigValue, IsConfig}
use Rattle.gm_config.specs.Sample.{sample_of}
use Rattle.gm_config.proofs.SampleLemmas.{IsConfig-sample_of}
use Rattle.edge_match.specs.AllEdges.{AreAllEdges}
use Rattle.edge_match.proofs.AllEdgesLemmas.{IsConforming-AreAllEdges}
use Rattle.query_terms.specs.Values.{QueryValue}
use Rattle.query_draw.specs.Query.{query_of}
use Rattle.workload_text.specs.Values.{IsQuery}
use Rattle.sample_laws.proofs.LiveLemmas.{sample_has_query}
use Rattle.sample_laws.proofs.TotalLemmas.{sample-within_limit}
use Rattle.summary_text.specs.Summary.{HasRoom, class_total, summary_text_of}
use Rattle.summary_text.specs.Counts.{smaller_totals, drawn_summary}
use Rattle.summary_text.specs.Laws.{with_class_of}
use Rattle.summary_text.proofs.CountLemmas.{constraints-smaller_total, query-counted, HasRoom-summary_with, classes-add_up}
use Rattle.gm_top.specs.Generation.{CanDraw, IsAcceptedFor}
use Rattle.gm_top.specs.Workload.{queries_of, workload_of}
use Rattle.gm_top.specs.Outputs.{summary, name_of, IsTextOf, AreFilesOf}
use Rattle.gm_top.proofs.KeptLemmas.{workload-kept}
use Rattle.gm_top.proofs.WorkloadLemmas.{first_queries, first_queries-more}
use Rattle.gm_top.proofs.GraphLemmas.{graph_text-some}

-- the sample and its seed are accepted
pub sample-accepted : (k : ℕ) → 1 ≤ k → k ≤ 100 → IsAcceptedFor (sample_of k) k
sample-accepted k some few =
    record { rules = IsConfig-sample_of k some few; queries = λ number within. sample_has_query k k number; sides = sample-within_limit k k few }

-- ---- the queries

module _ (config : ConfigValue) (seed : ℕ) where
  -- one more is counted
  pub drawn-counted : (n number : ℕ) → drawn_summary config seed n (first_queries config seed (number + 1))
      ≡ with_class_of (query_of config seed number).class (drawn_summary config seed n (first_queries config seed number))
  drawn-counted n number =
      ap (drawn_summary config seed n) (first_queries-more config seed number)
      ∙ query-counted (smaller_totals config seed n) (first_queries config seed number) (query_of config seed number)

  -- there is room for it
  pub drawn-room : (n number : ℕ) → number < 2 ^ 32 → HasRoom (drawn_summary config seed n (first_queries config seed number))
  drawn-room n number few =
      HasRoom-summary_with (smaller_totals config seed n) (first_queries config seed number) (omega (arith, few, length-map-range_with_len (query_of config seed) 0 number))

  -- in format 1 each drawn query has a class
  each-class : IsConfig config → CanDraw config seed → config.workload.format ≡ 1 → All (λ (q : QueryValue). IsSome q.class) (queries_of config seed)
  each-class rules can first =
      let kept = workload-kept config seed rules can in
      All-weaker (IsQuery (workload_of config seed).head) (λ (q : QueryValue). IsSome q.class) (λ q is. is.class ∙ is.format first) (queries_of config seed) kept.each

  -- ---- the file

  -- the summary is that of the edges and of the queries
  pub summary-text : (text : List ℕ) → IsConfig config → (edges : List Triple) → AreAllEdges config seed edges
      → text ≡ summary_text_of (drawn_summary config seed (length config.constraints) (queries_of config seed)) → IsTextOf (summary config seed) text
  summary-text text rules edges all is =
      let same = constraints-smaller_total config seed edges (queries_of config seed) (IsConforming-AreAllEdges config seed edges rules all) in
      (edges, all, is ∙ ap summary_text_of (sym same))

  pub summary-drawn : (text : List ℕ) → IsConfig config → IsTextOf (summary config seed) text
      → text ≡ summary_text_of (drawn_summary config seed (length config.constraints) (queries_of config seed))
  summary-drawn text rules (edges, all, is) =
      is ∙ ap summary_text_of (constraints-smaller_total config seed edges (queries_of config seed) (IsConforming-AreAllEdges config seed edges rules all))

  -- its numbers of classes add up to that of the queries
  pub summary-adds_up : IsConfig config → CanDraw config seed → config.workload.format ≡ 1 → (edges : List Triple) → AreAllEdges config seed edges
      → class_total (drawn_summary config seed (length config.constraints) (queries_of config seed)) ≡ config.workload.queries
  summary-adds_up rules can first edges all =
      let same = constraints-smaller_total config seed edges (queries_of config seed) (IsConforming-AreAllEdges config seed edges rules all) in
      ap class_total (sym same) ∙ classes-add_up config edges (queries_of config seed) (each-class rules can first)
      ∙ length-map-range_with_len (query_of config seed) 0 config.workload.queries

-- the text of the summary, as it was counted
pub summary-counted : (config : ConfigValue) (seed : ℕ) (text : List ℕ) → IsAcceptedFor config seed
    → text ≡ summary_text_of (drawn_summary config seed (length config.constraints) (queries_of config seed)) → IsTextOf (summary config seed) text
summary-counted config seed text accepted is =
    let graph = (graph_text-some config seed accepted.rules accepted.sides).1 in
    summary-text config seed text accepted.rules graph.0 graph.1 is

-- an accepted configuration has a summary
pub summary-some : (config : ConfigValue) (seed : ℕ) → IsAcceptedFor config seed → (files : FileList) × AreFilesOf (summary config seed ∷ []) files
summary-some config seed accepted =
    let text = summary_text_of (drawn_summary config seed (length config.constraints) (queries_of config seed)) in
    ((name_of (summary config seed), text) ∷ [], (refl, summary-counted config seed text accepted refl, tt))

-- The text of a workload, and the classes of its queries.
use Rattle.std.proofs.Common.{◌≡◌, ◌∙◌, ℕ, zero, suc, ◌+◌, ◌-◌, ◌<◌, List, [], ◌∷◌, ◌++◌, length, map, slice_get, refl, ap, sym, subst, true, false, if◌then◌else◌, Option, Some, None, Result, Ok, Err, IfErr, IsErrAnd, append_assoc, append-nil, arith}
use Rattle.std.specs.List.{range_with_len}
use Rattle.std.proofs.lemmas.Grind.{flat_map-append}
use Rattle.std.proofs.lemmas.Option.{get_or_from_slice_get, slice_get_within}
use Rattle.std.proofs.lemmas.List.FromFn.{get_or-map-range_with_len, length-map-range_with_len, map-range_with_len_more}
use Rattle.gm_config.specs.Config.{ConfigValue, IsConfig}
use Rattle.sel_algebra.specs.declared.vocabulary.Class.TheVariants.{Constant}
use Rattle.query_terms.specs.Values.{QueryValue}
use Rattle.query_draw.specs.Query.{has_query, query_of, drawn_query}
use Rattle.query_draw.specs.Refusals.{IsRefusal}
use Rattle.query_draw.specs.declared.errors.DrawError.{DrawError}
use Rattle.query_draw.specs.declared.errors.DrawError.TheVariants as draw
use Rattle.query_draw.proofs.RuleLemmas.{drawn_class_is_class, drawn_class_is_at_most_wide_class}
use Rattle.schema_graph.specs.Configured.{schema_of}
use Rattle.workload_text.specs.Lines.{WorkLine, line_bytes, lines_text, head_lines, query_lines, queries_lines, work_text}
use Rattle.workload_text.specs.Lines.WorkLine.{EndLine}
use Rattle.workload_text.specs.Head.{head_of}
use Rattle.gm_io.specs.FileList.{FileList, GainedPart}
use Rattle.gm_top.specs.Outputs.{workload, name_of, AreFilesOf, MakesPart}
use Rattle.gm_top.specs.declared.outcomes.Outcome.{Outcome}
use Rattle.gm_top.specs.declared.outcomes.Outcome.TheVariants as outcome
use Rattle.gm_top.specs.Outcome.{draw_outcome}
use Rattle.gm_top.specs.Generation.{CanDraw}
use Rattle.gm_top.specs.Workload.{queries_of, workload_of, queries_text, all_queries_text, HasClasses, HaveClasses, AreBounded}
use Rattle.constant_rows.specs.Bounded.{IsBounded}
use Rattle.constant_rows.proofs.BoundLemmas.{constant_queries_are_bounded}

-- ---- lines, one after another

lines_text-append : (lines more : List WorkLine) → lines_text (lines ++ more) ≡ lines_text lines ++ lines_text more
lines_text-append lines more = flat_map-append (λ line. line_bytes line ++ 10 ∷ []) lines more

queries_lines-append : (n : ℕ) (queries more : List QueryValue) → queries_lines n (queries ++ more) ≡ queries_lines n queries ++ queries_lines (n + length queries) more
queries_lines-append n [] more = let same : n ≡ n + 0 = omega arith in ap (λ m. queries_lines m more) same
queries_lines-append n (q ∷ queries) more =
    let same : n + 1 + length queries ≡ n + length (q ∷ queries) = omega arith in
    ap (λ lines. query_lines n q ++ lines) (queries_lines-append (n + 1) queries more)
    ∙ sym (append_assoc (query_lines n q) (queries_lines (n + 1) queries) (queries_lines (n + 1 + length queries) more))
    ∙ ap (λ m. queries_lines n (q ∷ queries) ++ queries_lines m more) same

module _ (config : ConfigValue) (seed : ℕ) where
  -- the first so many drawn queries
  abbrev pub first_queries : ℕ → List QueryValue
  first_queries number = map (query_of config seed) (range_with_len 0 number)

  -- and one more
  pub first_queries-more : (k : ℕ) → first_queries (k + 1) ≡ first_queries k ++ query_of config seed k ∷ []
  first_queries-more k = map-range_with_len_more (query_of config seed) 0 k k (omega arith)

  -- the lines of one more query
  pub queries_text-more : (k : ℕ) → queries_text config seed (k + 1) ≡ queries_text config seed k ++ lines_text (query_lines k (query_of config seed k))
  queries_text-more k =
      let before = first_queries k in
      let q = query_of config seed k in
      let long = length-map-range_with_len (query_of config seed) 0 k in
      let next : 0 + length before ≡ k = omega (arith, long) in
      ap (λ queries. lines_text (queries_lines 0 queries)) (first_queries-more k)
      ∙ ap lines_text (queries_lines-append 0 before (q ∷ []))
      ∙ lines_text-append (queries_lines 0 before) (queries_lines (0 + length before) (q ∷ []))
      ∙ ap (λ n. lines_text (queries_lines 0 before) ++ lines_text (query_lines n q ++ [])) next
      ∙ ap (λ lines. lines_text (queries_lines 0 before) ++ lines_text lines) (append-nil (query_lines k q))

  -- the lines of more queries begin with those of fewer
  queries_text-rest : (k d : ℕ) → (rest : List ℕ) × (queries_text config seed (k + d) ≡ queries_text config seed k ++ rest)
  queries_text-rest k zero = let same : k + 0 ≡ k = omega arith in ([], ap (queries_text config seed) same ∙ sym (append-nil (queries_text config seed k)))
  queries_text-rest k (suc d) =
      let rest = queries_text-rest k d in
      let line = lines_text (query_lines (k + d) (query_of config seed (k + d))) in
      let same : k + suc d ≡ k + d + 1 = omega arith in (
        rest.0 ++ line,
        ap (queries_text config seed) same
            ∙ queries_text-more (k + d)
            ∙ ap (λ text. text ++ line) rest.1
            ∙ append_assoc (queries_text config seed k) rest.0 line,
      )

  -- the lines of all queries begin with those of the first
  pub all_queries-rest : (k : ℕ) → k < config.workload.queries + 1 → (rest : List ℕ) × (all_queries_text config seed ≡ queries_text config seed k ++ rest)
  all_queries-rest k known =
      let n = config.workload.queries in
      let rest = queries_text-rest k (n - k) in
      let same : n ≡ k + (n - k) = omega arith in
      (rest.0, ap (queries_text config seed) same ∙ rest.1)

  -- the text is that of the head, of the queries and of the last line
  workload_text-parts : work_text (workload_of config seed)
      ≡ (lines_text (head_lines (head_of config)) ++ all_queries_text config seed) ++ lines_text (EndLine ∷ [])
  workload_text-parts =
      let head = head_lines (head_of config) in
      let queries = queries_lines 0 (queries_of config seed) in
      lines_text-append head (queries ++ EndLine ∷ [])
      ∙ ap (λ text. lines_text head ++ text) (lines_text-append queries (EndLine ∷ []))
      ∙ sym (append_assoc (lines_text head) (lines_text queries) (lines_text (EndLine ∷ [])))

  -- the same, of texts that are made
  pub workload_text-of : (head end : List ℕ) → head ≡ lines_text (head_lines (head_of config)) → end ≡ lines_text (EndLine ∷ [])
      → work_text (workload_of config seed) ≡ (head ++ all_queries_text config seed) ++ end
  workload_text-of head end head_is end_is = workload_text-parts ∙ (λ k. (sym head_is k ++ all_queries_text config seed) ++ sym end_is k)

  -- ---- classes

  -- a drawn query has the classes of its words
  drawn-classes : IsConfig config → (number : ℕ) → has_query config seed number ≡ true → HasClasses config seed number (schema_of config) (query_of config seed number)
  drawn-classes rules number any = record {
    class = sym (drawn_class_is_class config rules seed number any);
    drawn = refl;
    wide = refl;
    at_most = drawn_class_is_at_most_wide_class config rules seed number any;
    none = λ other. (rw other refl, rw other refl);
  }

  -- the number of a query of the workload is one of those that are asked for
  drawn-within : (number : ℕ) (q : QueryValue) → slice_get (queries_of config seed) number ≡ Some q → number < config.workload.queries
  drawn-within number q found =
      let inside = slice_get_within (queries_of config seed) number q found in
      let long = length-map-range_with_len (query_of config seed) 0 config.workload.queries in
      omega (arith, inside, long)

  -- a query of the workload is the drawn one with its number
  pub drawn-at : (number : ℕ) (q : QueryValue) → slice_get (queries_of config seed) number ≡ Some q → q ≡ query_of config seed number
  drawn-at number q found =
      let f = query_of config seed in
      let within = drawn-within number q found in
      sym (get_or_from_slice_get (queries_of config seed) number q q found) ∙ get_or-map-range_with_len f 0 config.workload.queries number number q within (omega arith)

  -- what is true of each query that can be drawn is true of each query of the workload
  drawn-of : (P : ℕ → QueryValue → Type 0) → ((number : ℕ) → has_query config seed number ≡ true → P number (query_of config seed number)) → CanDraw config seed
      → (number : ℕ) (q : QueryValue) → slice_get (queries_of config seed) number ≡ Some q → P number q
  drawn-of P each can number q found =
      subst (P number) (sym (drawn-at number q found)) (each number (can number (drawn-within number q found)))

  pub workload-classes : IsConfig config → CanDraw config seed → HaveClasses config seed (workload_of config seed)
  workload-classes rules can = drawn-of (λ number q. HasClasses config seed number (schema_of config) q) (drawn-classes rules) can

  -- where its wide class is constant, a drawn query is bounded
  pub workload-bounded : IsConfig config → CanDraw config seed → AreBounded config (workload_of config seed)
  workload-bounded rules can = drawn-of (λ number q. q.wide ≡ Some Constant → IsBounded config q) (constant_queries_are_bounded config rules seed) can

  -- ---- the file

  -- a part of the file, and no more calls than for it
  pub workload-part : (old new : Option FileList) → GainedPart old new ((name_of (workload config seed), work_text (workload_of config seed)) ∷ []) → MakesPart (workload config seed ∷ []) old new
  workload-part old new gained = (((name_of (workload config seed), work_text (workload_of config seed)) ∷ []), (refl, refl, tt), gained)

  pub workload-files : (files : FileList) × AreFilesOf (workload config seed ∷ []) files
  workload-files = ((name_of (workload config seed), work_text (workload_of config seed)) ∷ [], (refl, refl, tt))

-- ---- a drawn query

-- the query that was drawn is the one of its number
pub drawn-value : (config : ConfigValue) (seed number : ℕ) (q : QueryValue) → has_query config seed number ≡ true → drawn_query config seed number ≡ Some q → q ≡ query_of config seed number
drawn-value config seed number q any drawn =
    let is : Some (query_of config seed number) ≡ Some q = (λ k. if sym any k then Some (query_of config seed number) else None) ∙ drawn in
    some-same q (query_of config seed number) (sym is)
  where
    some-same : (a b : QueryValue) → Some a ≡ Some b → a ≡ b
    some-same a b same = cc

-- what can be drawn is refused for want of memory alone
pub draw-memory : (config : ConfigValue) (seed number : ℕ) (error : DrawError) → has_query config seed number ≡ true → IsRefusal config seed number error → error ≡ draw.NoMemory
draw-memory config seed number draw.NoMemory any refusal = refl
draw-memory config seed number (draw.NoSuchQuery missing) any refusal = absurd (differ (sym any ∙ refusal.none))
  where
    differ : true ≡ false → ⊥
    differ same = cc

pub memory-only : {T : Type 0} (result : Result T Outcome) (error : DrawError) → error ≡ draw.NoMemory → IsErrAnd result (λ answer. answer ≡ draw_outcome error)
    → IfErr result (λ answer. answer ≡ outcome.NoMemory)
memory-only (Ok x) error none is = tt
memory-only (Err answer) error none is = is ∙ ap draw_outcome none

-- The files of queries, one query after another.
use Rattle.std.proofs.Common.{◌≡◌, ◌∙◌, ℕ, ◌+◌, List, [], ◌∷◌, ◌++◌, length, take, drop, Option, Some, slice_get, refl, ap, sym, subst, arith}
use Rattle.std.proofs.lemmas.List.{take-append-drop, length-take, take_all}
use Rattle.std.proofs.lemmas.List.FromFn.{length-map-range_with_len}
use Rattle.std.proofs.lemmas.Option.{slice_get_within}
use Rattle.gm_io.specs.FileList.{FileList}
use Rattle.gm_files.specs.declared.texts.QueryFile.{QueryFile}
use Rattle.gm_files.specs.declared.texts.QueryFile.TheVariants.{Sparql, Sql}
use Rattle.gm_config.specs.Config.{ConfigValue}
use Rattle.query_terms.specs.Values.{QueryValue}
use Rattle.workload_text.specs.Values.{HeadValue}
use Rattle.query_draw.specs.Query.{query_of}
use Rattle.query_texts.specs.Texts.{text_of}
use Rattle.workload_text.proofs.HeadLemmas.{take-more}
use Rattle.gm_top.specs.Workload.{queries_of, workload_of}
use Rattle.workload_text.specs.Lines.{work_text}
use Rattle.gm_top.specs.Outputs.{Output, workload, query_file, name_of, pair_of, work_outputs, query_outputs, AreFilesOf, MakesFiles, MakesPart, TakesCalls, TakesCallsWithin}
use Rattle.gm_top.proofs.OutputLemmas.{MakesFiles-append, MakesPart-append, MakesPart-longer, TakesCalls-append, TakesCallsWithin-append, TakesCallsWithin-longer}

-- the file of a query in a language
pub query-file : (kind : QueryFile) (names : List (List ℕ)) (number : ℕ) (q : QueryValue) → (files : FileList) × AreFilesOf (query_file kind names number q ∷ []) files
query-file kind names number q = ((name_of (query_file kind names number q), text_of kind names q) ∷ [], (refl, refl, tt))

pub pair-files : (names : List (List ℕ)) (number : ℕ) (q : QueryValue) → (files : FileList) × AreFilesOf (pair_of names number q) files
pair-files names number q =
    ((name_of (query_file Sparql names number q), text_of Sparql names q) ∷ (name_of (query_file Sql names number q), text_of Sql names q) ∷ [], (refl, refl, (refl, refl, tt)))

module _ (names : List (List ℕ)) where
  -- the files of queries
  pub queries-files : (number : ℕ) (queries : List QueryValue) → (files : FileList) × AreFilesOf (query_outputs names number queries) files
  queries-files number [] = ([], tt)
  queries-files number (q ∷ queries) =
      let rest = queries-files (number + 1) queries in
      ((name_of (query_file Sparql names number q), text_of Sparql names q) ∷ (name_of (query_file Sql names number q), text_of Sql names q) ∷ rest.0, (refl, refl, (refl, refl, rest.1)))

  outputs-append : (number : ℕ) (queries more : List QueryValue)
      → query_outputs names number (queries ++ more) ≡ query_outputs names number queries ++ query_outputs names (number + length queries) more
  outputs-append number [] more = let same : number ≡ number + 0 = omega arith in ap (λ n. query_outputs names n more) same
  outputs-append number (q ∷ queries) more =
      let same : number + 1 + length queries ≡ number + length (q ∷ queries) = omega arith in
      ap (λ outputs. pair_of names number q ++ outputs) (outputs-append (number + 1) queries more)
      ∙ ap (λ n. pair_of names number q ++ (query_outputs names (number + 1) queries ++ query_outputs names n more)) same

  module _ (queries : List QueryValue) (k : ℕ) (q : QueryValue) (at : slice_get queries k ≡ Some q) where
    -- the files of one more query
    outputs-more : query_outputs names 0 (take (k + 1) queries) ≡ query_outputs names 0 (take k queries) ++ pair_of names k q
    outputs-more =
        let inside = slice_get_within queries k q at in
        let long = length-take k queries in
        let next : 0 + length (take k queries) ≡ k = omega (arith, inside, long) in
        ap (query_outputs names 0) (take-more queries k q at)
        ∙ outputs-append 0 (take k queries) (q ∷ [])
        ∙ ap (λ n. query_outputs names 0 (take k queries) ++ query_outputs names n (q ∷ [])) next

    -- the files of the queries after it
    outputs-rest : query_outputs names 0 queries ≡ (query_outputs names 0 (take k queries) ++ pair_of names k q) ++ query_outputs names (k + 1) (drop (k + 1) queries)
    outputs-rest =
        let inside = slice_get_within queries k q at in
        let long = length-take (k + 1) queries in
        let next : 0 + length (take (k + 1) queries) ≡ k + 1 = omega (arith, inside, long) in
        ap (query_outputs names 0) (sym (take-append-drop (k + 1) queries))
        ∙ outputs-append 0 (take (k + 1) queries) (drop (k + 1) queries)
        ∙ ap (λ n. query_outputs names 0 (take (k + 1) queries) ++ query_outputs names n (drop (k + 1) queries)) next
        ∙ ap (λ outputs. outputs ++ query_outputs names (k + 1) (drop (k + 1) queries)) outputs-more

    pub files-more : (old mid new : Option FileList) → MakesFiles (query_outputs names 0 (take k queries)) old mid → MakesFiles (pair_of names k q) mid new
        → MakesFiles (query_outputs names 0 (take (k + 1) queries)) old new
    files-more old mid new before own =
        subst (λ outputs. MakesFiles outputs old new) (sym outputs-more) (MakesFiles-append (query_outputs names 0 (take k queries)) (pair_of names k q) old mid new before own)

    pub part-more : (old mid new : Option FileList) → MakesFiles (query_outputs names 0 (take k queries)) old mid → MakesPart (pair_of names k q) mid new
        → MakesPart (query_outputs names 0 queries) old new
    part-more old mid new before own =
        subst (λ outputs. MakesPart outputs old new) (sym outputs-rest)
        (MakesPart-longer (query_outputs names 0 (take k queries) ++ pair_of names k q) (query_outputs names (k + 1) (drop (k + 1) queries)) old new
        (MakesPart-append (query_outputs names 0 (take k queries)) (pair_of names k q) old mid new before own) (queries-files (k + 1) (drop (k + 1) queries)))

    pub calls-more : (before mid now : ℕ) → TakesCalls (query_outputs names 0 (take k queries)) before mid → TakesCalls (pair_of names k q) mid now
        → TakesCalls (query_outputs names 0 (take (k + 1) queries)) before now
    calls-more before mid now calls own =
        subst (λ outputs. TakesCalls outputs before now) (sym outputs-more) (TakesCalls-append (query_outputs names 0 (take k queries)) (pair_of names k q) before mid now calls own)

    pub part_calls-more : (before mid now : ℕ) → TakesCalls (query_outputs names 0 (take k queries)) before mid → TakesCallsWithin (pair_of names k q) mid now
        → TakesCallsWithin (query_outputs names 0 queries) before now
    part_calls-more before mid now calls own =
        subst (λ outputs. TakesCallsWithin outputs before now) (sym outputs-rest)
        (TakesCallsWithin-longer (query_outputs names 0 (take k queries) ++ pair_of names k q) (query_outputs names (k + 1) (drop (k + 1) queries)) before now
        (TakesCallsWithin-append (query_outputs names 0 (take k queries)) (pair_of names k q) before mid now calls own) (queries-files (k + 1) (drop (k + 1) queries)))

  -- all queries
  all-queries : (queries : List QueryValue) (k : ℕ) → k ≡ length queries → query_outputs names 0 (take k queries) ≡ query_outputs names 0 queries
  all-queries queries k all = ap (query_outputs names 0) (take_all k queries (omega (arith, all)))

  pub files-all : (queries : List QueryValue) (k : ℕ) → k ≡ length queries → (old new : Option FileList) → MakesFiles (query_outputs names 0 (take k queries)) old new
      → MakesFiles (query_outputs names 0 queries) old new
  files-all queries k all old new made = subst (λ outputs. MakesFiles outputs old new) (all-queries queries k all) made

  pub calls-all : (queries : List QueryValue) (k : ℕ) → k ≡ length queries → (before now : ℕ) → TakesCalls (query_outputs names 0 (take k queries)) before now
      → TakesCalls (query_outputs names 0 queries) before now
  calls-all queries k all before now taken = subst (λ outputs. TakesCalls outputs before now) (all-queries queries k all) taken

-- how many queries are drawn
pub drawn-count : (config : ConfigValue) (seed : ℕ) → length (queries_of config seed) ≡ config.workload.queries
drawn-count config seed = length-map-range_with_len (query_of config seed) 0 config.workload.queries

-- what is known of the outputs of a query under a head that was lent is known of those under the head that lends it
pub under-head : (P : List Output → Type 0) (lent own : HeadValue) (number : ℕ) (q : QueryValue) → lent ≡ own → P (pair_of lent.labels number q) → P (pair_of own.labels number q)
under-head P lent own number q same p = subst (λ (h : HeadValue). P (pair_of h.labels number q)) same p

-- the files after that of the graph
pub later-files : (config : ConfigValue) (seed : ℕ) → (files : FileList) × AreFilesOf (workload config seed ∷ work_outputs (workload_of config seed)) files
later-files config seed =
    let queries = queries-files config.labels 0 (queries_of config seed) in
    ((name_of (workload config seed), work_text (workload_of config seed)) ∷ queries.0, (refl, refl, queries.1))

-- The files that a work is to make: their names, their bytes, and what these mean.
--   Output                            one such file
--   pair_of names number q            those of a query
--   query_outputs names n queries     those of queries that are numbered one after another
--   outputs_of work                   those of a work, in order
--   IsAccepted work                   a work that can be decided
--   name_of output                    the name of a file
--   IsTextOf output text              its bytes
--   Means output text                 what its bytes mean
--   AreFiles Has outputs files        files have these names, and their bytes have a property
--   AreFilesOf outputs files          files are these
--   AreMeant outputs files            files mean what these mean
--   MakesFiles outputs old new        a folder has gained just these files
--   MakesPart outputs old new         a folder has gained a part of them
--   TakesCalls outputs before now     a folder was called as often as these files take
--   TakesCallsWithin outputs ..       it was called no more often than that
use Rattle.std.specs.Prelude.{◌≡◌, ◌≤◌, ℕ, ◌+◌, List, [], ◌∷◌, ◌++◌, length, Option, codes, ⊤}
use Rattle.gm_io.specs.Count.{raised}
use Rattle.gm_io.specs.FileList.{FileList, Gained, GainedPart}
use Rattle.gm_files.specs.Calls.{all_calls}
use Rattle.gm_files.specs.QueryName.{query_name_of}
use Rattle.gm_files.specs.declared.texts.QueryFile.{QueryFile}
use Rattle.gm_files.specs.declared.texts.QueryFile.TheVariants.{Sparql, Sql}
use Rattle.graph_text.specs.declared.graphs.Triple.{Triple}
use Rattle.graph_text.specs.EdgesText.{IsReading}
use Rattle.gm_config.specs.Config.{ConfigValue}
use Rattle.edge_match.specs.AllEdges.{AreAllEdges}
use Rattle.edge_match.specs.ConformingGraph.{IsConforming}
use Rattle.query_terms.specs.Values.{QueryValue}
use Rattle.query_texts.specs.Texts.{text_of, MeansQuery}
use Rattle.gm_top.specs.declared.work.Work.{Work}
use Rattle.gm_top.specs.declared.work.Work.TheVariants.{Queries, Files, Sampled}
use Rattle.workload_text.specs.Lines as lines
use Rattle.workload_text.specs.Values.{WorkValue, IsWork}
use Rattle.gm_top.specs.Generation.{GenerationValue, IsAcceptedFor}
use Rattle.summary_text.specs.Summary.{summary_text_of, class_total}
use Rattle.summary_text.specs.Counts.{summary_of, drawn_summary}
use Rattle.gm_top.specs.Workload.{queries_of, workload_of, HaveClasses, AreBounded}

-- a file: the graph, the workload or the summary of a configuration and a seed, or the query with a number in a language,
-- where the labels have these names
pub data Output : Type 0 where
  graph : ConfigValue → ℕ → Output
  workload : ConfigValue → ℕ → Output
  query_file : QueryFile → List (List ℕ) → ℕ → QueryValue → Output
  summary : ConfigValue → ℕ → Output

-- a query in SPARQL, and then in SQL
abbrev pub pair_of : List (List ℕ) → ℕ → QueryValue → List Output
pair_of names number q = query_file Sparql names number q ∷ query_file Sql names number q ∷ []

-- so each of some queries
abbrev pub query_outputs : List (List ℕ) → ℕ → List QueryValue → List Output
query_outputs names number [] = []
query_outputs names number (q ∷ queries) = pair_of names number q ++ query_outputs names (number + 1) queries

-- the queries of a workload, under the names of its labels
abbrev pub work_outputs : WorkValue → List Output
work_outputs v = query_outputs v.head.labels 0 v.queries

-- the graph and the workload of a configuration, and the queries of the workload
abbrev pub files_outputs : GenerationValue → List Output
files_outputs g = graph g.config g.seed ∷ workload g.config g.seed ∷ work_outputs (workload_of g.config g.seed)

-- the files that a work is to make, in order
abbrev pub outputs_of : Work → List Output
outputs_of (Queries v) = work_outputs v
outputs_of (Files g) = files_outputs g
outputs_of (Sampled g) = files_outputs g ++ summary g.config g.seed ∷ []

-- a work that can be decided: the workload keeps its rules, or nothing of the configuration is refused; and each query of
-- a sample has two heads, as in format 1
abbrev pub IsAccepted : Work → Type 0
IsAccepted (Queries v) = IsWork v
IsAccepted (Files g) = IsAcceptedFor g.config g.seed
IsAccepted (Sampled g) = IsAcceptedFor g.config g.seed × (g.config.workload.format ≡ 1)

-- the name of a file
abbrev pub name_of : Output → List ℕ
name_of (graph config seed) = codes "graph.txt"
name_of (workload config seed) = codes "workload.txt"
name_of (query_file kind names number q) = query_name_of number kind
name_of (summary config seed) = codes "summary.txt"

-- the bytes of a file: the lines of all edges, the text of the head and of the drawn queries, the text of a query, or the
-- numbers of the edges of each constraint and of the queries of each class
abbrev pub IsTextOf : Output → List ℕ → Type 0
IsTextOf (graph config seed) text = (edges : List Triple) × AreAllEdges config seed edges × IsReading text edges
IsTextOf (workload config seed) text = text ≡ lines.work_text (workload_of config seed)
IsTextOf (query_file kind names number q) text = text ≡ text_of kind names q
IsTextOf (summary config seed) text =
    (edges : List Triple) × AreAllEdges config seed edges × (text ≡ summary_text_of (summary_of config edges (queries_of config seed)))

-- What the bytes of a file mean: they read as a list of edges that conforms to the configuration and the seed; they
-- read as the configuration's head with its drawn queries, each of which has the classes of its words, and is bounded
-- where its wide class is constant; they have a reading in their language with the rows of the query, over every list of
-- triples; or they are the smaller totals of the constraints, and numbers of classes that add up to that of the queries.
abbrev pub Means : Output → List ℕ → Type 0
Means (graph config seed) text = (edges : List Triple) × IsReading text edges × IsConforming config seed edges
Means (workload config seed) text =
    (v : WorkValue) × lines.IsReading text v × (v ≡ workload_of config seed) × HaveClasses config seed v × AreBounded config v
Means (query_file kind names number q) text = MeansQuery kind names q text
Means (summary config seed) text =
    let s = drawn_summary config seed (length config.constraints) (queries_of config seed) in
    (text ≡ summary_text_of s) × (class_total s ≡ config.workload.queries)

-- at each place a file has the name that it is to have, and its bytes have a property
abbrev pub AreFiles : (Output → List ℕ → Type 0) → List Output → FileList → Type 0
AreFiles Has [] [] = ⊤
AreFiles Has [] (file ∷ files) = ⊥
AreFiles Has (output ∷ outputs) [] = ⊥
AreFiles Has (output ∷ outputs) (file ∷ files) =
    (file.0 ≡ name_of output) × Has output file.1 × AreFiles Has outputs files

-- files are these outputs
abbrev pub AreFilesOf : List Output → FileList → Type 0
AreFilesOf outputs files = AreFiles IsTextOf outputs files

-- files mean what these outputs mean
abbrev pub AreMeant : List Output → FileList → Type 0
AreMeant outputs files = AreFiles Means outputs files

-- a folder has gained just these files
abbrev pub MakesFiles : List Output → (old new : Option FileList) → Type 0
MakesFiles outputs old new = (files : FileList) × AreFilesOf outputs files × Gained old new files

-- a folder has gained a part of these files
abbrev pub MakesPart : List Output → (old new : Option FileList) → Type 0
MakesPart outputs old new = (files : FileList) × AreFilesOf outputs files × GainedPart old new files

-- a folder was called as often as these files take
abbrev pub TakesCalls : List Output → (before now : ℕ) → Type 0
TakesCalls outputs before now = (files : FileList) × AreFilesOf outputs files × (now ≡ raised before (all_calls files))

-- it was called no more often than that
abbrev pub TakesCallsWithin : List Output → (before now : ℕ) → Type 0
TakesCallsWithin outputs before now = (files : FileList) × AreFilesOf outputs files × (now ≤ raised before (all_calls files))

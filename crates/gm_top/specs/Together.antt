-- What the files of a run say of one another, as a folder has them.
--   HasTranslation files rest          the query files are those of the workload text before them
--   HasSummary config files            the last file counts the edges of the graph and the queries of the workload before it
--   AreTogether work files             so it is of the files of a work
--   GainsTogether words left old new   and of those that a folder has gained
use Rattle.std.specs.Prelude.{◌≡◌, ℕ, List, [], ◌∷◌, ◌++◌, Option, Ok, ⊤}
use Rattle.gm_io.specs.FileList.{FileList, Told}
use Rattle.graph_text.specs.declared.graphs.Triple.{Triple}
use Rattle.graph_text.specs.EdgesText.{IsReading}
use Rattle.gm_config.specs.Config.{ConfigValue}
use Rattle.workload_text.specs.Lines as lines
use Rattle.workload_text.specs.Values.{WorkValue}
use Rattle.summary_text.specs.Summary.{summary_text_of}
use Rattle.summary_text.specs.Counts.{summary_of}
use Rattle.gm_top.specs.declared.commands.Command.TheVariants.{Translate}
use Rattle.gm_top.specs.declared.work.Work.{Work}
use Rattle.gm_top.specs.declared.work.Work.TheVariants.{Queries, Files, Sampled}
use Rattle.gm_top.specs.Laws.{DefinesFiles}
use Rattle.gm_top.specs.Run.{IsDecided}

-- behind the graph and the workload come the files that `translate` makes of the bytes of the workload, and then the rest
pub record HasTranslation (files rest : FileList) : Type 0 where
  pub graph : List ℕ × List ℕ
  pub workload : List ℕ × List ℕ
  pub texts : FileList
  pub files_are : files ≡ graph ∷ workload ∷ (texts ++ rest)
  pub translated : DefinesFiles Translate workload.1 texts

-- the last file has for each constraint the number of its triples in the first, and for each class the number of its
-- queries in the second
pub record HasSummary (config : ConfigValue) (files : FileList) : Type 0 where
  pub graph : List ℕ × List ℕ
  pub workload : List ℕ × List ℕ
  pub texts : FileList
  pub summary : List ℕ × List ℕ
  pub files_are : files ≡ graph ∷ workload ∷ (texts ++ summary ∷ [])
  pub edges : List Triple
  pub graph_reads : IsReading graph.1 edges
  pub value : WorkValue
  pub workload_reads : lines.IsReading workload.1 value
  pub counts : summary.1 ≡ summary_text_of (summary_of config edges value.queries)

-- what is translated has its text elsewhere; what is generated has it beside it; and a sample has a summary too
abbrev pub AreTogether : Work → FileList → Type 0
AreTogether (Queries v) files = ⊤
AreTogether (Files g) files = HasTranslation files []
AreTogether (Sampled g) files = (summary : List ℕ × List ℕ) × HasTranslation files (summary ∷ []) × HasSummary g.config files

-- the files are those that the folder has gained, as it has them now
pub record GainsTogether (words : List (List ℕ)) (left : Option (List ℕ)) (old new : Option FileList) : Type 0 where
  pub work : Work
  pub decided : IsDecided words left (Ok work)
  pub together : Told old new (λ xs ys. (files : FileList) × (ys ≡ xs ++ files) × AreTogether work files)

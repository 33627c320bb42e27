-- What the files of a run say of one another.
use Rattle.std.proofs.Common.{◌≡◌, ◌∙◌, ℕ, List, [], ◌∷◌, ◌++◌, Option, Ok, refl, ap, sym, subst, append-nil}
use Rattle.gm_io.specs.FileList.{FileList}
use Rattle.graph_text.specs.declared.graphs.Triple.{Triple}
use Rattle.edge_match.proofs.AllEdgesLemmas.{AreAllEdges-one}
use Rattle.workload_text.specs.Lines.{work_text}
use Rattle.workload_text.proofs.QueryPassLemmas.{read-back}
use Rattle.summary_text.specs.Summary.{summary_text_of}
use Rattle.summary_text.specs.Counts.{summary_of}
use Rattle.gm_top.specs.declared.commands.Command.{Command}
use Rattle.gm_top.specs.declared.work.Work.{Work}
use Rattle.gm_top.specs.declared.work.Work.TheVariants.{Queries, Files, Sampled}
use Rattle.gm_top.specs.Command.{IsCommand}
use Rattle.gm_top.specs.declared.commands.Command.TheVariants.{Translate}
use Rattle.gm_top.specs.Decision.{IsDecision, Decides}
use Rattle.gm_top.specs.Generation.{GenerationValue, IsAcceptedFor}
use Rattle.gm_top.specs.Workload.{queries_of, workload_of}
use Rattle.gm_top.specs.Outputs.{Output, summary, files_outputs, outputs_of, IsAccepted, AreFilesOf, MakesFiles}
use Rattle.gm_top.specs.Together.{HasTranslation, HasSummary, AreTogether, GainsTogether}
use Rattle.gm_top.proofs.CommandLemmas.{asked-can}
use Rattle.gm_top.proofs.DecisionLemmas.{IsAccepted-IsDecision, IsDecision-text}
use Rattle.gm_top.proofs.KeptLemmas.{workload-kept}
use Rattle.gm_top.proofs.RunLemmas.{Told-files}

-- the files of outputs and of others are some files and others
files-split : (outputs others : List Output) (files : FileList) → AreFilesOf (outputs ++ others) files
    → (own : FileList) × (rest : FileList) × (files ≡ own ++ rest) × AreFilesOf outputs own × AreFilesOf others rest
files-split [] others files are = ([], files, refl, tt, are)
files-split (output ∷ outputs) others [] are = absurd are
files-split (output ∷ outputs) others (file ∷ files) are =
    let (own, rest, is, first, second) = files-split outputs others files are.2 in
    (file ∷ own, rest, ap (λ (fs : FileList). file ∷ fs) is, (are.0, are.1, first), second)

-- the files of queries are those that `translate` makes of the text of their workload
generated : (g : GenerationValue) → IsAcceptedFor g.config g.seed → (files rest : FileList) → (own : FileList) → files ≡ own ++ rest
    → AreFilesOf (files_outputs g) own → HasTranslation files rest
generated g accepted files rest [] is are = absurd are
generated g accepted files rest (graph ∷ []) is are = absurd are.2
generated g accepted files rest (graph ∷ workload ∷ texts) is are =
    let v = workload_of g.config g.seed in
    let read = read-back v (workload-kept g.config g.seed accepted.rules accepted.queries) in
    record {
      graph = graph;
      workload = workload;
      texts = texts;
      files_are = is;
      translated =
          subst (λ (text : List ℕ). (work : Work) × IsDecision Translate text (Ok work) × AreFilesOf (outputs_of work) texts) (sym are.2.1)
          (Queries v, IsDecision-text (work_text v) v read, are.2.2);
    }

-- the summary is that of the graph and of the workload before it
summed : (g : GenerationValue) → IsAcceptedFor g.config g.seed → (files own : FileList) (last : List ℕ × List ℕ) → files ≡ own ++ last ∷ []
    → AreFilesOf (files_outputs g) own → AreFilesOf (summary g.config g.seed ∷ []) (last ∷ []) → HasSummary g.config files
summed g accepted files [] last is are sum = absurd are
summed g accepted files (graph ∷ []) last is are sum = absurd are.2
summed g accepted files (graph ∷ workload ∷ texts) last is are sum =
    let (edges, all, reading) = are.1 in
    let (others, all_others, text) = sum.1 in
    let v = workload_of g.config g.seed in
    record {
      graph = graph;
      workload = workload;
      texts = texts;
      summary = last;
      files_are = is;
      edges = edges;
      graph_reads = reading;
      value = v;
      workload_reads = (workload-kept g.config g.seed accepted.rules accepted.queries, sym are.2.1);
      counts =
          text
          ∙ ap (λ (edges : List Triple). summary_text_of (summary_of g.config edges (queries_of g.config g.seed)))
          (AreAllEdges-one g.config g.seed others edges all_others all);
    }

-- one output has one file
one-file : (output : Output) (files : FileList) → AreFilesOf (output ∷ []) files → (file : List ℕ × List ℕ) × (files ≡ file ∷ [])
one-file output [] are = absurd are
one-file output (file ∷ []) are = (file, refl)
one-file output (file ∷ other ∷ files) are = absurd are.2

sampled : (g : GenerationValue) → IsAcceptedFor g.config g.seed → (files own rest : FileList) → files ≡ own ++ rest → AreFilesOf (files_outputs g) own
    → AreFilesOf (summary g.config g.seed ∷ []) rest → AreTogether (Sampled g) files
sampled g accepted files own [] is are sum = absurd sum
sampled g accepted files own (last ∷ []) is are sum = (last, generated g accepted files (last ∷ []) own is are, summed g accepted files own last is are sum)
sampled g accepted files own (last ∷ other ∷ more) is are sum = absurd sum.2

pub AreTogether-AreFilesOf : (work : Work) (files : FileList) → IsAccepted work → AreFilesOf (outputs_of work) files → AreTogether work files
AreTogether-AreFilesOf (Queries v) files accepted are = tt
AreTogether-AreFilesOf (Files g) files accepted are = generated g accepted files [] files (sym (append-nil files)) are
AreTogether-AreFilesOf (Sampled g) files accepted are =
    let (own, rest, is, first, second) = files-split (files_outputs g) (summary g.config g.seed ∷ []) files are in
    sampled g accepted.0 files own rest is first second

pub GainsTogether-Gained : (words : List (List ℕ)) (command : Command) (left : Option (List ℕ)) (old new : Option FileList) (work : Work) → IsCommand command words
    → Decides command left (Ok work) → MakesFiles (outputs_of work) old new → GainsTogether words left old new
GainsTogether-Gained words command left old new work asked (bytes, given, decided) (files, are, gained) =
    record {
      work = work;
      decided = record { command = command; asked = asked; decided = (bytes, given, decided) };
      together =
          Told-files old new (AreTogether work) files gained
          (AreTogether-AreFilesOf work files (IsAccepted-IsDecision command (asked-can words command asked) bytes work decided) are);
    }

-- Every input has one decision, and every work has one list of files.
use Rattle.std.proofs.Common.{◌≡◌, ◌∙◌, ◌⊎◌, ℕ, ◌+◌, All, List, [], ◌∷◌, ◌++◌, Option, Some, None, Result, Ok, Err, refl, ap, sym, subst, inl, inr, true, false}
use Rattle.std.specs.List.{AllByRecursion}
use Rattle.std.specs.Str.{is_utf8}
use Rattle.std.proofs.lemmas.Bool.{cases_Bool}
use Rattle.std.proofs.lemmas.List.Elements.{All-head, All-tail}
use Rattle.std.proofs.lemmas.Str.{IsUtf8-from_is_utf8, is_utf8-from_IsUtf8}
use Rattle.serde_json.specs.Data.{Data}
use Rattle.serde_json.specs.Read.{read}
use Rattle.gm_io.specs.FileList.{FileList}
use Rattle.gm_config.specs.Reading.{Reads, config_of}
use Rattle.gm_config.specs.Rule.{first_broken}
use Rattle.gm_config.specs.Rules.{rules}
use Rattle.graph_text.specs.declared.graphs.Triple.{Triple}
use Rattle.graph_text.specs.EdgesText.{edges_text}
use Rattle.edge_match.specs.Limit.{IsWithinLimit}
use Rattle.gm_top.specs.Generation.{GenerationValue, CanDraw, IsAcceptedFor}
use Rattle.edge_match.proofs.AllEdgesLemmas.{AreAllEdges-one, IsConforming-AreAllEdges}
use Rattle.gm_top.specs.declared.commands.Command.{Command}
use Rattle.gm_top.specs.declared.commands.Command.TheVariants.{Translate, Generate, Sample}
use Rattle.gm_top.specs.declared.outcomes.Outcome.{Outcome}
use Rattle.gm_top.specs.declared.work.Work.{Work}
use Rattle.gm_top.specs.declared.work.Work.TheVariants.{Queries, Files, Sampled}
use Rattle.gm_top.specs.Decision.{IsValueOf, text_decision, files_decision, IsDecision}
use Rattle.gm_top.specs.Outputs.{Output, graph, workload, query_file, summary, query_outputs, files_outputs, outputs_of, name_of, IsTextOf, Means, IsAccepted, AreFilesOf, AreMeant}
use Rattle.workload_text.specs.Lines.{work_text}
use Rattle.workload_text.specs.Rules.{verdict_of}
use Rattle.workload_text.specs.Values.{HeadValue, IsHead, IsQuery}
use Rattle.query_terms.specs.Values.{QueryValue}
use Rattle.query_texts.specs.Texts.{text_of, MeansQuery}
use Rattle.query_texts.proofs.MeaningLemmas.{texts_mean_their_query}
use Rattle.gm_top.specs.Command.{CanBeAsked}
use Rattle.gm_top.specs.Workload.{queries_of, workload_of}
use Rattle.gm_config.specs.Sample.{sample_of}
use Rattle.summary_text.specs.Summary.{summary_text_of}
use Rattle.summary_text.specs.Counts.{summary_of}
use Rattle.gm_top.proofs.SampleLemmas.{sample-accepted, summary-drawn, summary-adds_up}
use Rattle.gm_top.specs.Laws.{Refuses, DefinesFiles}
use Rattle.gm_top.proofs.DecisionLemmas.{decides-files, IsAccepted-IsDecision}
use Rattle.gm_top.proofs.GraphLemmas.{graph_text-some}
use Rattle.gm_top.proofs.WorkloadLemmas.{workload-classes, workload-bounded}
use Rattle.gm_top.proofs.KeptLemmas.{workload-kept}

-- bytes have a value or none, and one alone
value_some : (bytes : List ℕ) (value : Option Data) → read bytes ≡ value → (value : Option Data) × IsValueOf bytes value
value_some bytes None is = (None, λ d reads. not_both d (sym reads.value ∙ is))
  where
    not_both : (d : Data) → Some d ≡ None → ⊥
    not_both d same = cc
value_some bytes (Some d) is =
    elim (cases_Bool (is_utf8 bytes)) [
      | inl valid ↦ (Some d, record { utf8 = IsUtf8-from_is_utf8 bytes valid; value = is })
      | inr other ↦ (None, λ e reads. differ (sym (is_utf8-from_IsUtf8 bytes reads.utf8) ∙ other))
    ]
  where
    differ : true ≡ false → ⊥
    differ same = cc

value_one : (bytes : List ℕ) (value other : Option Data) → IsValueOf bytes value → IsValueOf bytes other → value ≡ other
value_one bytes None None p q = refl
value_one bytes None (Some e) p q = absurd (p e q)
value_one bytes (Some d) None p q = absurd (q d p)
value_one bytes (Some d) (Some e) p q = sym p.value ∙ q.value

IsDecision-some : (command : Command) (bytes : List ℕ) → (decision : Result Work Outcome) × IsDecision command bytes decision
IsDecision-some (Sample k) bytes = (Ok (Sampled (record { config = sample_of k; seed = k })), refl)
IsDecision-some Translate bytes = (text_decision (verdict_of bytes), refl)
IsDecision-some (Generate seed) bytes = let value = value_some bytes (read bytes) refl in (files_decision seed value.0, (value.0, value.1, refl))

-- what is decided of bytes is one
pub IsDecision-one : (command : Command) (bytes : List ℕ) (a b : Result Work Outcome) → IsDecision command bytes a → IsDecision command bytes b → a ≡ b
IsDecision-one (Sample k) bytes a b p q = p ∙ sym q
IsDecision-one Translate bytes a b p q = p ∙ sym q
IsDecision-one (Generate seed) bytes a b (value, is_value, p) (other, is_other, q) = p ∙ ap (files_decision seed) (value_one bytes value other is_value is_other) ∙ sym q

-- ---- files, one after another

-- an output of an accepted work
abbrev pub IsAcceptedOutput : Output → Type 0
IsAcceptedOutput (query_file kind names number q) = (h : HeadValue) × IsHead h × IsQuery h q × (h.labels ≡ names)
IsAcceptedOutput (graph config seed) = IsAcceptedFor config seed
IsAcceptedOutput (workload config seed) = IsAcceptedFor config seed
IsAcceptedOutput (summary config seed) = IsAcceptedFor config seed × (config.workload.format ≡ 1)

queries-accepted : (h : HeadValue) → IsHead h → (number : ℕ) (queries : List QueryValue) → All (IsQuery h) queries
    → AllByRecursion IsAcceptedOutput (query_outputs h.labels number queries)
queries-accepted h head number [] all = tt
queries-accepted h head number (q ∷ queries) all =
    let is = All-head (IsQuery h) q queries all in
    ((h, head, is, refl), ((h, head, is, refl), queries-accepted h head (number + 1) queries (All-tail (IsQuery h) q queries all)))

files-accepted : (g : GenerationValue) → IsAcceptedFor g.config g.seed → AllByRecursion IsAcceptedOutput (files_outputs g)
files-accepted g accepted =
    let v = workload_of g.config g.seed in
    let kept = workload-kept g.config g.seed accepted.rules accepted.queries in
    (accepted, (accepted, queries-accepted v.head kept.head 0 v.queries kept.each))

accepted-append : (outputs others : List Output) → AllByRecursion IsAcceptedOutput outputs → AllByRecursion IsAcceptedOutput others
    → AllByRecursion IsAcceptedOutput (outputs ++ others)
accepted-append [] others p q = q
accepted-append (output ∷ outputs) others p q = (p.0, accepted-append outputs others p.1 q)

pub outputs-accepted : (work : Work) → IsAccepted work → AllByRecursion IsAcceptedOutput (outputs_of work)
outputs-accepted (Queries v) accepted = queries-accepted v.head accepted.head 0 v.queries accepted.each
outputs-accepted (Files g) accepted = files-accepted g accepted
outputs-accepted (Sampled g) accepted =
    accepted-append (files_outputs g) (summary g.config g.seed ∷ []) (files-accepted g accepted.0) (accepted, tt)

-- it has a text
pub IsTextOf-some : (output : Output) → IsAcceptedOutput output → (text : List ℕ) × IsTextOf output text
IsTextOf-some (query_file kind names number q) accepted = (text_of kind names q, refl)
IsTextOf-some (graph config seed) accepted = graph_text-some config seed accepted.rules accepted.sides
IsTextOf-some (summary config seed) accepted =
    let graph = (graph_text-some config seed accepted.0.rules accepted.0.sides).1 in
    (summary_text_of (summary_of config graph.0 (queries_of config seed)), (graph.0, graph.1, refl))
IsTextOf-some (workload config seed) accepted = (work_text (workload_of config seed), refl)

-- it has one text
IsTextOf-one : (output : Output) (text other : List ℕ) → IsTextOf output text → IsTextOf output other → text ≡ other
IsTextOf-one (query_file kind names number value) text other p q = p ∙ sym q
IsTextOf-one (summary config seed) text other (edges, all, is) (others, all_others, is_so) =
    is ∙ ap (λ (edges : List Triple). summary_text_of (summary_of config edges (queries_of config seed))) (AreAllEdges-one config seed edges others all all_others) ∙ sym is_so
IsTextOf-one (workload config seed) text other p q = p ∙ sym q
IsTextOf-one (graph config seed) text other (edges, all, reading) (others, all_others, read_so) =
    sym reading.1 ∙ ap edges_text (AreAllEdges-one config seed edges others all all_others) ∙ read_so.1

-- the text means what it is to mean
Means-IsTextOf : (output : Output) (text : List ℕ) → IsAcceptedOutput output → IsTextOf output text → Means output text
Means-IsTextOf (query_file kind names number q) text (h, head, keeps, same) is =
    subst (MeansQuery kind names q) (sym is)
    (subst (λ (labels : List (List ℕ)). MeansQuery kind labels q (text_of kind labels q)) same (texts_mean_their_query h q head keeps kind))
Means-IsTextOf (workload config seed) text accepted is = (
  workload_of config seed,
  (workload-kept config seed accepted.rules accepted.queries, sym is),
  refl,
  workload-classes config seed accepted.rules accepted.queries,
  workload-bounded config seed accepted.rules accepted.queries,
)
Means-IsTextOf (summary config seed) text accepted is = (
  summary-drawn config seed text accepted.0.rules is,
  summary-adds_up config seed accepted.0.rules accepted.0.queries accepted.1 is.0 is.1,
)
Means-IsTextOf (graph config seed) text accepted (edges, all, reading) = (edges, reading, IsConforming-AreAllEdges config seed edges accepted.rules all)

-- accepted outputs have files
pub AreFilesOf-some : (outputs : List Output) → AllByRecursion IsAcceptedOutput outputs → (files : FileList) × AreFilesOf outputs files
AreFilesOf-some [] accepted = ([], tt)
AreFilesOf-some (output ∷ outputs) accepted =
    let text = IsTextOf-some output accepted.0 in
    let files = AreFilesOf-some outputs accepted.1 in
    ((name_of output, text.0) ∷ files.0, (refl, text.1, files.1))

one_file : (name other text more : List ℕ) → name ≡ other → text ≡ more → ◌≡◌ {A = List ℕ × List ℕ} (name, text) (other, more)
one_file name other text more p q = ap (λ (n : List ℕ). (n, text)) p ∙ ap (λ (t : List ℕ). (other, t)) q

-- they have one list of files
pub AreFilesOf-one : (outputs : List Output) (files others : FileList) → AreFilesOf outputs files → AreFilesOf outputs others → files ≡ others
AreFilesOf-one [] [] [] p q = refl
AreFilesOf-one [] [] (other ∷ others) p q = absurd q
AreFilesOf-one [] (file ∷ files) others p q = absurd p
AreFilesOf-one (output ∷ outputs) [] others p q = absurd p
AreFilesOf-one (output ∷ outputs) (file ∷ files) [] p q = absurd q
AreFilesOf-one (output ∷ outputs) (file ∷ files) (other ∷ others) p q =
    ap (λ (f : List ℕ × List ℕ). f ∷ files) (one_file file.0 other.0 file.1 other.1 (p.0 ∙ sym q.0) (IsTextOf-one output file.1 other.1 p.1 q.1))
    ∙ ap (λ (fs : FileList). other ∷ fs) (AreFilesOf-one outputs files others p.2 q.2)

-- their files mean what they are to mean
pub AreMeant-AreFilesOf : (outputs : List Output) (files : FileList) → AllByRecursion IsAcceptedOutput outputs → AreFilesOf outputs files → AreMeant outputs files
AreMeant-AreFilesOf [] [] accepted are = tt
AreMeant-AreFilesOf [] (file ∷ files) accepted are = absurd are
AreMeant-AreFilesOf (output ∷ outputs) [] accepted are = absurd are
AreMeant-AreFilesOf (output ∷ outputs) (file ∷ files) accepted are =
    (are.0, Means-IsTextOf output file.1 accepted.0 are.1, AreMeant-AreFilesOf outputs files accepted.1 are.2)

-- ---- the laws

is_decided : (command : Command) → CanBeAsked command → (bytes : List ℕ) (decision : Result Work Outcome) → IsDecision command bytes decision
    → ((refusal : Outcome) × Refuses command bytes refusal) ⊎ ((files : FileList) × DefinesFiles command bytes files)
is_decided command asked bytes (Err refusal) decided = inl (refusal, decided)
is_decided command asked bytes (Ok work) decided =
    let files = AreFilesOf-some (outputs_of work) (outputs-accepted work (IsAccepted-IsDecision command asked bytes work decided)) in
    inr (files.0, (work, decided, files.1))

pub every_input_is_decided : (command : Command) → CanBeAsked command → (bytes : List ℕ) → ((refusal : Outcome) × Refuses command bytes refusal) ⊎ ((files : FileList) × DefinesFiles command bytes files)
every_input_is_decided command asked bytes = let decision = IsDecision-some command bytes in is_decided command asked bytes decision.0 decision.1

pub samples_are_never_refused : (k : ℕ) → CanBeAsked (Sample k) → IsAcceptedFor (sample_of k) k × ((bytes : List ℕ) (refusal : Outcome) → ¬ Refuses (Sample k) bytes refusal)
samples_are_never_refused k asked = (sample-accepted k asked.0 asked.1, λ bytes refusal is. not_ok (record { config = sample_of k; seed = k }) refusal is)
  where
    not_ok : (g : GenerationValue) (refusal : Outcome) → ◌≡◌ {A = Result Work Outcome} (Err refusal) (Ok (Sampled g)) → ⊥
    not_ok g refusal same = cc

same_work : (a b : Work) → ◌≡◌ {A = Result Work Outcome} (Ok a) (Ok b) → a ≡ b
same_work a b same = cc

pub files_are_one : (command : Command) (bytes : List ℕ) (files others : FileList) → DefinesFiles command bytes files → DefinesFiles command bytes others → files ≡ others
files_are_one command bytes files others (work, decided, are) (other, decided_so, are_so) =
    let same = same_work work other (IsDecision-one command bytes (Ok work) (Ok other) decided decided_so) in
    AreFilesOf-one (outputs_of other) files others (subst (λ (w : Work). AreFilesOf (outputs_of w) files) same are) are_so

pub accepted_asks_for_its_files : (seed : ℕ) (bytes : List ℕ) (d : Data) → Reads bytes d → first_broken rules d ≡ None → CanDraw (config_of d) seed
    → IsWithinLimit (config_of d) seed → IsDecision (Generate seed) bytes (Ok (Files (record { config = config_of d; seed = seed })))
accepted_asks_for_its_files seed bytes d reads none can within = (Some d, reads, sym (decides-files seed d none can within))

-- The file of a graph, and the parts of it that a run may leave.
use Rattle.std.proofs.Common.{◌≡◌, ◌∙◌, ℕ, ◌+◌, ◌-◌, ◌<◌, ◌≤◌, List, [], ◌∷◌, ◌++◌, length, refl, ap, sym, subst, Option, Result, Ok, Err, OnErr, arith, append_assoc}
use Rattle.std.proofs.lemmas.List.{length-append}
use Rattle.std.proofs.lemmas.List.Elements.{All-append}
use Rattle.gm_io.specs.Count.{raised}
use Rattle.gm_io.specs.FileList.{FileList, Gained}
use Rattle.gm_io.specs.Folder.{KeepsFiles}
use Rattle.gm_files.specs.Calls.{file_calls}
use Rattle.gm_files.proofs.Gains.{GainedPart-none, GainedPart-all}
use Rattle.graph_text.specs.declared.graphs.Triple.{Triple}
use Rattle.graph_text.specs.EdgesText.{IsInRange, IsReading, edges_text}
use Rattle.graph_text.proofs.EdgesTextLemmas.{edges_text-append}
use Rattle.gm_config.specs.Config.{ConfigValue, IsConfig}
use Rattle.edge_match.specs.AllEdges.{AreEdgesBefore}
use Rattle.edge_match.specs.Limit.{IsWithinLimit}
use Rattle.edge_match.proofs.AllEdgesLemmas.{AreEdgesBefore-none, AreEdgesBefore-more}
use Rattle.gm_top.specs.Outputs.{graph, name_of, IsTextOf, MakesFiles, MakesPart, TakesCalls, TakesCallsWithin}
use Rattle.gm_top.specs.Putting.{PutsPart, AreLinesOf, AreLinesBefore}
use Rattle.edge_match.proofs.EdgeLemmas.{AreEdgesBefore-next}
use Rattle.gm_top.proofs.PutLemmas.{GainedPart-PutsPart}

-- the lines of more edges follow those before
IsReading-append : (text own : List ℕ) (edges others : List Triple) → IsReading text edges → IsReading own others → IsReading (text ++ own) (edges ++ others)
IsReading-append text own edges others first second = (
  All-append IsInRange edges others first.0 second.0,
  edges_text-append edges others ∙ ap (λ bytes. bytes ++ edges_text others) first.1 ∙ ap (λ bytes. text ++ bytes) second.1,
)

pub AreLinesBefore-none : (config : ConfigValue) (seed : ℕ) → AreLinesBefore config seed 0 []
AreLinesBefore-none config seed = ([], AreEdgesBefore-none config seed, ((λ k d below. absurd (omega arith)), refl))

pub AreLinesBefore-more : (config : ConfigValue) (seed c : ℕ) (text own : List ℕ) → AreLinesBefore config seed c text → AreLinesOf config seed c own
    → AreLinesBefore config seed (c + 1) (text ++ own)
AreLinesBefore-more config seed c text own (edges, before, reading) (others, mine, read_so) =
    (edges ++ others, AreEdgesBefore-more config seed c edges others before mine, IsReading-append text own edges others reading read_so)

module _ (config : ConfigValue) (seed : ℕ) where
  -- the file with this text
  abbrev pub graph_file : List ℕ → FileList
  graph_file text = (name_of (graph config seed), text) ∷ []

  -- the lines of all edges are the text of the graph
  pub graph-whole : (old new : Option FileList) (done kept text : List ℕ) → AreLinesBefore config seed (length config.constraints) text → done ++ kept ≡ text
      → Gained old new (graph_file (done ++ kept)) → MakesFiles (graph config seed ∷ []) old new
  graph-whole old new done kept text lines same gained = (graph_file (done ++ kept), (refl, rw same lines, tt), gained)

  pub part-whole : (old new : Option FileList) → MakesFiles (graph config seed ∷ []) old new → MakesPart (graph config seed ∷ []) old new
  part-whole old new (files, are, gained) = (files, are, GainedPart-all old new files gained)

  -- the calls for the file of the lines of all edges
  pub calls-whole : (before now : ℕ) (text : List ℕ) → AreLinesBefore config seed (length config.constraints) text → now ≡ raised before (file_calls (length text))
      → TakesCalls (graph config seed ∷ []) before now
  calls-whole before now text lines is = (graph_file text, (refl, lines, tt), omega (arith, is))

  module _ (rules : IsConfig config) (within : IsWithinLimit config seed) where
    -- lines of some constraints begin the text of the graph
    later_lines : (c : ℕ) (text : List ℕ) → c ≤ length config.constraints → AreLinesBefore config seed c text
        → (rest : List ℕ) × IsTextOf (graph config seed) (text ++ rest)
    later_lines c text known (edges, before, reading) =
        let n = length config.constraints in
        let next = AreEdgesBefore-next config seed rules c (n - c) edges within (omega arith) before in
        let all : c + (n - c) ≡ n = omega arith in (
          edges_text next.0,
          (
            edges ++ next.0,
            subst (λ (m : ℕ). AreEdgesBefore config seed m (edges ++ next.0)) all next.1,
            IsReading-append text (edges_text next.0) edges next.0 reading (next.2, refl),
          ),
        )

    pub graph_text-some : (text : List ℕ) × IsTextOf (graph config seed) text
    graph_text-some = later_lines 0 [] (omega arith) (AreLinesBefore-none config seed)

    -- no more calls than for a file of the lines of some constraints
    pub calls-part : (before now c : ℕ) (text : List ℕ) → c ≤ length config.constraints → AreLinesBefore config seed c text → now ≤ raised before (file_calls (length text))
        → TakesCallsWithin (graph config seed ∷ []) before now
    calls-part before now c text known lines few =
        let rest = later_lines c text known lines in
        (graph_file (text ++ rest.0), (refl, rest.1, tt), omega (arith, few, length-append text rest.0))

    pub calls-none : (before now : ℕ) → now ≤ raised before 1 → TakesCallsWithin (graph config seed ∷ []) before now
    calls-none before now few = calls-part before now 0 [] (omega arith) (AreLinesBefore-none config seed) (omega (arith, few))

    pub part-none : (old new : Option FileList) → KeepsFiles old new → MakesPart (graph config seed ∷ []) old new
    part-none old new kept =
        let rest = later_lines 0 [] (omega arith) (AreLinesBefore-none config seed) in
        (graph_file rest.0, (refl, rest.1, tt), GainedPart-none old new _ kept)

    -- a write failed of what was kept of the lines of some constraints
    pub part-kept : (old mid new : Option FileList) (c : ℕ) (done kept text : List ℕ) → c ≤ length config.constraints → AreLinesBefore config seed c text
        → done ++ kept ≡ text → Gained old mid (graph_file done) → PutsPart mid new kept → MakesPart (graph config seed ∷ []) old new
    part-kept old mid new c done kept text known lines same gained put =
        let rest = later_lines c text known lines in (
          graph_file (text ++ rest.0),
          (refl, rest.1, tt),
          GainedPart-PutsPart old mid new _ done kept rest.0 _ gained put (ap (λ (bytes : List ℕ). bytes ++ rest.0) (sym same) ∙ append_assoc done kept rest.0),
        )

    -- it stopped among the lines of constraint c
    pub part-lines : (old mid new : Option FileList) (c : ℕ) (done kept text own : List ℕ) → c < length config.constraints → AreLinesBefore config seed c text
        → AreLinesOf config seed c own → done ++ kept ≡ text → Gained old mid (graph_file done) → PutsPart mid new (kept ++ own) → MakesPart (graph config seed ∷ []) old new
    part-lines old mid new c done kept text own known lines mine same gained put =
        let rest = later_lines (c + 1) (text ++ own) (omega arith) (AreLinesBefore-more config seed c text own lines mine) in
        let parts =
        ap (λ (bytes : List ℕ). (bytes ++ own) ++ rest.0) (sym same)
        ∙ ap (λ (bytes : List ℕ). bytes ++ rest.0) (append_assoc done kept own)
        ∙ append_assoc done (kept ++ own) rest.0 in
        (graph_file ((text ++ own) ++ rest.0), (refl, rest.1, tt), GainedPart-PutsPart old mid new _ done (kept ++ own) rest.0 _ gained put parts)

pub OnErr-all : {T E : Type 0} (result : Result T E) (P : Type 0) → P → OnErr result P
OnErr-all (Ok x) P p = tt
OnErr-all (Err e) P p = p

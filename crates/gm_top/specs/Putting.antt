-- What the last file of a folder gains while a text is put into it part by part, and some bytes of it are kept.
--   Puts old new before after text     a text was put behind the bytes that were kept before
--   PutsPart old new text              the file has gained the start of a text
--   CallsToPut calls calls_after ..    the calls of the folder while a text was put
--   PutsText old new calls ..          a text was put, with these calls
--   PutsTextPart old new calls ..      the file has gained the start of what was kept and of a text, in no more calls
--   PutSoFar old now calls ..          a text so far of a file that was created
--   AreLinesOf config seed c text      the text is the lines of the edges of constraint c
--   PutsEdges config seed c ..         the lines of constraint c were put
--   PutsEdgesPart config seed c ..     the file has gained the start of what was kept and of those lines
--   AreLinesBefore config seed c text  the text is the lines of the edges of the constraints before constraint c
use Rattle.std.specs.Prelude.{◌≡◌, ◌≤◌, ℕ, ◌+◌, ◌*◌, List, [], ◌∷◌, ◌++◌, length, Option}
use Rattle.gm_io.specs.Count.{raised}
use Rattle.gm_io.specs.FileList.{FileList, Told, with_piece, Gained, IsPrefix}
use Rattle.gm_files.specs.Calls.{piece_most, full_count}
use Rattle.graph_text.specs.declared.graphs.Triple.{Triple}
use Rattle.graph_text.specs.EdgesText.{IsReading}
use Rattle.gm_config.specs.Config.{ConfigValue}
use Rattle.edge_match.specs.AllEdges.{AreEdgesOf, AreEdgesBefore}

-- a text was put behind the bytes that were kept before: the file has gained all of them but those that are kept after
abbrev pub Puts : (old new : Option FileList) (before after text : List ℕ) → Type 0
Puts old new before after text =
    (written : List ℕ) × (before ++ text ≡ written ++ after) × Told old new (λ xs ys. ys ≡ with_piece xs written)

-- the file has gained the start of a text
abbrev pub PutsPart : (old new : Option FileList) (text : List ℕ) → Type 0
PutsPart old new text =
    Told old new (λ xs ys. (written : List ℕ) × IsPrefix written text × (ys ≡ with_piece xs written))

-- a text was put behind the bytes that were kept before: one call for each full piece, and the bytes after are kept
pub record CallsToPut (calls calls_after : ℕ) (before after text : List ℕ) : Type 0 where
  pub each_piece : calls_after ≡ raised calls (full_count (length before + length text))
  pub kept : length after + piece_most * full_count (length before + length text) ≡ length before + length text

-- a text was put behind the bytes that were kept before, in just the calls that it takes
pub record PutsText (old new : Option FileList) (calls calls_after : ℕ) (before after text : List ℕ) : Type 0 where
  pub puts : Puts old new before after text
  pub called : CallsToPut calls calls_after before after text

-- the file has gained the start of the bytes that were kept before, followed by a text, in no more calls
pub record PutsTextPart (old new : Option FileList) (calls calls_after : ℕ) (before text : List ℕ) : Type 0 where
  pub puts : PutsPart old new (before ++ text)
  pub called : calls_after ≤ raised calls (full_count (length before + length text))

-- the folder has gained a file of this name, which with the bytes that are kept has this text so far
pub record PutSoFar (old now : Option FileList) (calls calls_now : ℕ) (name kept text : List ℕ) : Type 0 where
  pub done : List ℕ
  pub whole : done ++ kept ≡ text
  pub gained : Gained old now ((name, done) ∷ [])
  pub called : CallsToPut (raised calls 1) calls_now [] kept text

-- the text is the lines of the edges of constraint c
abbrev pub AreLinesOf : ConfigValue → (seed c : ℕ) → List ℕ → Type 0
AreLinesOf config seed c text = (edges : List Triple) × AreEdgesOf config seed c edges × IsReading text edges

-- the text is the lines of the edges of the constraints before constraint c
abbrev pub AreLinesBefore : ConfigValue → (seed c : ℕ) → List ℕ → Type 0
AreLinesBefore config seed c text = (edges : List Triple) × AreEdgesBefore config seed c edges × IsReading text edges

-- the lines of the edges of constraint c were put behind the bytes that were kept before
abbrev pub PutsEdges : ConfigValue → (seed c : ℕ) (old new : Option FileList) (calls calls_after : ℕ)
    → (before after : List ℕ) → Type 0
PutsEdges config seed c old new calls calls_after before after =
    (text : List ℕ) × AreLinesOf config seed c text
    × Puts old new before after text × CallsToPut calls calls_after before after text

-- the file has gained the start of the bytes that were kept before, followed by those lines, in no more calls
abbrev pub PutsEdgesPart : ConfigValue → (seed c : ℕ) (old new : Option FileList) (calls calls_after : ℕ)
    → (before : List ℕ) → Type 0
PutsEdgesPart config seed c old new calls calls_after before =
    (text : List ℕ) × AreLinesOf config seed c text
    × PutsPart old new (before ++ text) × (calls_after ≤ raised calls (full_count (length before + length text)))

-- The files of a list of texts, split at one of them.
use Rattle.std.proofs.Common.{◌≡◌, ℕ, ◌+◌, ◌<◌, List, [], ◌∷◌, ◌++◌, length, get_or, take, drop, refl, sym, ap, ◌∙◌}
use Rattle.std.proofs.lemmas.List.{map-append, map_more, take-append-drop}
use Rattle.std.proofs.lemmas.List.Sums.{sum_by-append, sum_by_push}
use Rattle.gm_io.specs.FileList.{FileList}
use Rattle.gm_files.specs.Calls.{file_calls, all_calls}
use Rattle.gm_files.specs.FileText.{files_of}
use Rattle.gm_files.specs.declared.texts.FileText.{FileText}

entry_of : FileText → List ℕ × List ℕ
entry_of text = (text.name, text.bytes)

-- the files before a text, its own, and those after it
files_of-split : (texts : List FileText) (i : ℕ) (text : FileText) → i < length texts → text ≡ get_or texts i text
    → files_of texts ≡ (files_of (take i texts) ++ (text.name, text.bytes) ∷ []) ++ files_of (drop (i + 1) texts)
unfolding entry_of
files_of-split texts i text below here =
    ap files_of (sym (take-append-drop (i + 1) texts))
    ∙ map-append entry_of (take (i + 1) texts) (drop (i + 1) texts)
    ∙ rw (map_more entry_of texts i text below, ← here) refl

-- the same, where the texts come as a slice and the text as its name and bytes
pub files_of-split_at : (texts items : List FileText) (i : ℕ) (text : FileText) (name bytes : List ℕ)
    → items ≡ texts → i < length items → text ≡ get_or items i text → name ≡ text.name → bytes ≡ text.bytes
    → files_of texts ≡ (files_of (take i texts) ++ (name, bytes) ∷ []) ++ files_of (drop (i + 1) texts)
files_of-split_at texts items i text name bytes same below here is_name is_bytes =
    rw (is_name, is_bytes, ← same) (files_of-split items i text below here)

-- the calls for files, one more, and others
pub all_calls-split : (all files more : FileList) (name bytes : List ℕ) → all ≡ (files ++ (name, bytes) ∷ []) ++ more
    → all_calls all ≡ all_calls files + file_calls (length bytes) + all_calls more
all_calls-split all files more name bytes split =
    let calls : List ℕ × List ℕ → ℕ = λ file. file_calls (length file.1) in
    ap all_calls split
    ∙ sum_by-append calls (files ++ (name, bytes) ∷ []) more
    ∙ ap (λ n. n + all_calls more) (sum_by_push calls files (name, bytes))

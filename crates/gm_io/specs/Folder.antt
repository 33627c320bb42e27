-- What the three calls of a folder do to its files, where it tells them.
use Rattle.std.specs.Prelude.{◌≡◌, ℕ, Option, List, [], ◌∷◌, ◌++◌, take, Result, MatchResult}
use Rattle.gm_io.specs.FileList.{FileList, Told, with_piece}

-- a created file stands last and has no bytes, and a failed create adds none
abbrev pub Creates : {E : Type 0} → Option FileList → Option FileList → Result Unit E → List ℕ → Type 0
Creates old new result name = Told old new (λ xs ys. MatchResult result (λ _. ys ≡ xs ++ (name, []) ∷ []) (λ _. ys ≡ xs))

-- the last file has gained the piece, or a prefix of it in a failed write
abbrev pub Writes : {E : Type 0} → Option FileList → Option FileList → Result Unit E → List ℕ → Type 0
Writes old new result piece =
    Told old new (λ xs ys. MatchResult result (λ _. ys ≡ with_piece xs piece) (λ _. (kept : ℕ) × (ys ≡ with_piece xs (take kept piece))))

-- the files are those before
abbrev pub KeepsFiles : Option FileList → Option FileList → Type 0
KeepsFiles old new = Told old new (λ xs ys. ys ≡ xs)

-- The full pieces of a text and what is left after them, as the text grows.
use Rattle.std.proofs.Common.{◌≡◌, ℕ, Option, Some, None, ◌+◌, ◌*◌, ◌-◌, ◌≤◌, ◌<◌, List, [], ◌∷◌, ◌++◌, length, take, drop, Ok, refl, ap, sym, ◌∙◌, arith, append_assoc, length-append}
use Rattle.std.proofs.lemmas.List.{append-nil, take_at, drop_at, take-append-drop, length-take-le, length-drop}
use Rattle.gm_io.specs.FileList.{FileList, Told, with_piece, Gained, GainedPart}
use Rattle.gm_io.specs.Folder.{Writes}
use Rattle.gm_files.specs.Calls.{full_count, pieces_of}
use Rattle.gm_files.specs.Pieces.{full_pieces, last_piece}
use Rattle.gm_files.proofs.Gains.{Gained-write, GainedPart-write}

module _ (text full last : List ℕ) (count : ℕ) (parts : text ≡ full ++ last) (whole : length full ≡ 65536 * count) (short : length last < 65536) where
  end_of_full : 65536 * full_count (length text) ≡ length full
  end_of_full = omega (arith, ap length parts, length-append full last)

  -- whole pieces with less than one after them are the full pieces of the text
  pub full_pieces-split : full_pieces text ≡ full
  unfolding full_pieces
  full_pieces-split = ap (λ n. take n text) end_of_full ∙ ap (take (length full)) parts ∙ take_at full last (length full) refl

  -- and what comes after them is left
  pub last_piece-split : last_piece text ≡ last
  unfolding last_piece
  last_piece-split = ap (λ n. drop n text) end_of_full ∙ ap (drop (length full)) parts ∙ drop_at full last (length full) refl

module _ (text : List ℕ) where
  pub full_pieces-last_piece : full_pieces text ++ last_piece text ≡ text
  unfolding full_pieces last_piece
  full_pieces-last_piece = take-append-drop (65536 * full_count (length text)) text

  pub length-full_pieces : length (full_pieces text) ≡ 65536 * full_count (length text)
  unfolding full_pieces
  length-full_pieces = length-take-le (65536 * full_count (length text)) text (omega arith)

  pub length-last_piece : length (last_piece text) + 65536 * full_count (length text) ≡ length text
  length-last_piece = omega (arith, ap length full_pieces-last_piece, length-append (full_pieces text) (last_piece text), length-full_pieces)

  -- a text that is shorter than a piece
  pub full_pieces-short : length text < 65536 → full_pieces text ≡ []
  full_pieces-short short = full_pieces-split text [] text 0 refl refl short

  pub last_piece-short : length text < 65536 → last_piece text ≡ text
  last_piece-short short = last_piece-split text [] text 0 refl refl short

-- bytes that fill a piece, and those after them
module _ (kept bytes : List ℕ) (room : ℕ) (size : length kept + room ≡ 65536) (fits : room ≤ length bytes) (few : length bytes - room < 65536) where
  cut : kept ++ bytes ≡ (kept ++ take room bytes) ++ drop room bytes
  cut = rw append_assoc (ap (λ (xs : List ℕ). kept ++ xs) (sym (take-append-drop room bytes)))

  full : length (kept ++ take room bytes) ≡ 65536 * 1
  full = omega (arith, length-append kept (take room bytes), length-take-le room bytes fits)

  pub full_pieces-fill : full_pieces (kept ++ bytes) ≡ kept ++ take room bytes
  full_pieces-fill = full_pieces-split (kept ++ bytes) (kept ++ take room bytes) (drop room bytes) 1 cut full (omega (arith, length-drop room bytes))

  pub last_piece-fill : last_piece (kept ++ bytes) ≡ drop room bytes
  last_piece-fill = last_piece-split (kept ++ bytes) (kept ++ take room bytes) (drop room bytes) 1 cut full (omega (arith, length-drop room bytes))

-- a piece that holds `size` bytes of a text, takes what it lacks of the bytes that are put after them
module _ (kept text bytes last : List ℕ) (size : ℕ) (same : kept ≡ text) (length_is : size ≡ length kept) (below : size < 65536) (few : length bytes ≤ 65536) (fits : 65536 - size ≤ length bytes) where
  pub full_pieces-filled : (piece : List ℕ) → piece ≡ kept ++ last → last ≡ take (65536 - size) bytes → full_pieces (text ++ bytes) ≡ piece
  full_pieces-filled piece filled front =
      full_pieces-fill text bytes (65536 - size) (omega (arith, ap length same)) fits (omega arith) ∙ sym (rw (filled, front, same) refl)

  pub last_piece-filled : (later : List ℕ) → later ≡ drop (65536 - size) bytes → last_piece (text ++ bytes) ≡ later
  last_piece-filled later back = last_piece-fill text bytes (65536 - size) (omega (arith, ap length same)) fits (omega arith) ∙ sym back

-- bytes that are put after a text
module _ (text bytes : List ℕ) where
  rest : List ℕ
  rest = last_piece text ++ bytes

  both : text ++ bytes ≡ (full_pieces text ++ full_pieces rest) ++ last_piece rest
  unfolding rest
  both =
      ap (λ (xs : List ℕ). xs ++ bytes) (sym (full_pieces-last_piece text))
      ∙ append_assoc (full_pieces text) (last_piece text) bytes
      ∙ ap (λ (xs : List ℕ). full_pieces text ++ xs) (sym (full_pieces-last_piece rest))
      ∙ sym (append_assoc (full_pieces text) (full_pieces rest) (last_piece rest))

  counts : length (full_pieces text ++ full_pieces rest) ≡ 65536 * (full_count (length text) + full_count (length rest))
  counts = omega (arith, length-append (full_pieces text) (full_pieces rest), length-full_pieces text, length-full_pieces rest)

  -- the full pieces of both are those of the text, and then those of what was left and the bytes
  pub full_pieces-append : full_pieces text ++ full_pieces (last_piece text ++ bytes) ≡ full_pieces (text ++ bytes)
  unfolding rest
  full_pieces-append = sym (full_pieces-split (text ++ bytes) (full_pieces text ++ full_pieces rest) (last_piece rest) _ both counts (omega (arith, length-last_piece rest)))

  pub last_piece-append : last_piece (last_piece text ++ bytes) ≡ last_piece (text ++ bytes)
  unfolding rest
  last_piece-append = sym (last_piece-split (text ++ bytes) (full_pieces text ++ full_pieces rest) (last_piece rest) _ both counts (omega (arith, length-last_piece rest)))

  pub full_count-append : full_count (length text) + full_count (length (last_piece text) + length bytes) ≡ full_count (length (text ++ bytes))
  full_count-append = omega (arith, length-last_piece text, length-append text bytes)

-- a text and what follows it, cut where its full pieces end
all-put : (text bytes rest : List ℕ) → (text ++ bytes) ++ rest
    ≡ full_pieces text ++ (full_pieces (last_piece text ++ bytes) ++ (last_piece (last_piece text ++ bytes) ++ rest))
all-put text bytes rest =
    ap (λ (xs : List ℕ). xs ++ rest) (sym (full_pieces-last_piece (text ++ bytes)) ∙ ap (λ (xs : List ℕ). xs ++ last_piece (text ++ bytes)) (sym (full_pieces-append text bytes)) ∙ ap (λ (xs : List ℕ). (full_pieces text ++ full_pieces (last_piece text ++ bytes)) ++ xs) (sym (last_piece-append text bytes)))
    ∙ append_assoc (full_pieces text ++ full_pieces (last_piece text ++ bytes)) (last_piece (last_piece text ++ bytes)) rest
    ∙ append_assoc (full_pieces text) (full_pieces (last_piece text ++ bytes)) (last_piece (last_piece text ++ bytes) ++ rest)

-- the last piece is one more, where it has a byte
pub pieces_of-last_piece : (text : List ℕ) → full_count (length text) + pieces_of (length (last_piece text)) ≡ pieces_of (length text)
pieces_of-last_piece text = omega (arith, length-last_piece text)

with_piece-nil : (files : FileList) → with_piece files [] ≡ files
with_piece-nil [] = refl
with_piece-nil (file ∷ []) = ap (λ (bytes : List ℕ). (file.0, bytes) ∷ []) (append-nil file.1)
with_piece-nil (file ∷ next ∷ files) = ap (λ rest. file ∷ rest) (with_piece-nil (next ∷ files))

-- no write at all writes nothing
pub Writes-none : (T : Type 0) (files : Option FileList) (piece : List ℕ) → piece ≡ [] → Writes {E = T} files files (Ok tt) piece
Writes-none T None piece none = tt
Writes-none T (Some xs) piece none = rw none (sym (with_piece-nil xs))

-- a file that has gained the full pieces of a text, and bytes that are put after it
module _ (old mid new : Option FileList) (name text : List ℕ) (before : Gained old mid ((name, full_pieces text) ∷ [])) where
  -- a done put: the file has the full pieces of both
  pub Gained-put : (bytes : List ℕ) → Told mid new (λ xs ys. ys ≡ with_piece xs (full_pieces (last_piece text ++ bytes))) → Gained old new ((name, full_pieces (text ++ bytes)) ∷ [])
  Gained-put bytes wrote = rw (← full_pieces-append text bytes) (Gained-write _ _ _ _ _ _ before wrote)

  -- a failed put: the file has a prefix of them, whatever follows
  pub GainedPart-put : (bytes rest : List ℕ) → Told mid new (λ xs ys. (kept : ℕ) × (ys ≡ with_piece xs (take kept (full_pieces (last_piece text ++ bytes)))))
      → GainedPart old new ((name, (text ++ bytes) ++ rest) ∷ [])
  GainedPart-put bytes rest wrote = GainedPart-write _ _ _ _ _ _ _ _ _ (all-put text bytes rest) refl before wrote

  -- a done flush: the file has the text
  pub Gained-flush : Told mid new (λ xs ys. ys ≡ with_piece xs (last_piece text)) → Gained old new ((name, text) ∷ [])
  Gained-flush wrote = rw (full_pieces-last_piece text) at (Gained-write _ _ _ name _ _ before wrote)

  -- a failed flush: the file has a prefix of the text
  pub GainedPart-flush : Told mid new (λ xs ys. (kept : ℕ) × (ys ≡ with_piece xs (take kept (last_piece text)))) → GainedPart old new ((name, text) ∷ [])
  GainedPart-flush wrote = GainedPart-write _ _ _ _ _ _ _ (last_piece text) [] (sym (full_pieces-last_piece text)) (sym (append-nil (last_piece text))) before wrote

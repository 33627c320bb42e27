-- The lines of a text, and the words of a line.
--   is_byte this byte       the byte at which a text or a line is cut
--   lines_of_parts parts    the lines in the parts of a text between its LFs
--   lines_of text           each line, without its LF, and whether an LF ends it
--   words_of line           each word: two spaces have an empty word between them
--   words_left rest         the words of what is left of a line, or none
use Rattle.std.specs.Prelude.{ℕ, Bool, true, false, ◌==◌, if◌then◌else◌, Option, Some, None, List, [], ◌∷◌, length}
use Rattle.std.specs.List.{slice_split}

-- a byte is this one
abbrev pub is_byte : ℕ → ℕ → Bool
is_byte this byte = byte == this

-- the parts of a text between its LFs as lines: LF ends each but the last, which is a line only where it has a byte
abbrev pub lines_of_parts : List (List ℕ) → List (List ℕ × Bool)
lines_of_parts [] = []
lines_of_parts (part ∷ []) = if length part == 0 then [] else (part, false) ∷ []
lines_of_parts (part ∷ next ∷ parts) = (part, true) ∷ lines_of_parts (next ∷ parts)

-- the lines of a text, cut at each LF (byte 10)
abbrev pub lines_of : List ℕ → List (List ℕ × Bool)
lines_of text = lines_of_parts (slice_split (is_byte 10) text)

-- the words of a line, cut at each space (byte 32)
abbrev pub words_of : List ℕ → List (List ℕ)
words_of line = slice_split (is_byte 32) line

-- after the last word nothing of a line is left, and no word
abbrev pub words_left : Option (List ℕ) → List (List ℕ)
words_left None = []
words_left (Some rest) = words_of rest

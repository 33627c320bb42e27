-- Bytes that are cut at the first one that passes a test.
use Rattle.std.proofs.Common.{◌≡◌, ℕ, ◌+◌, refl, false, ◌<◌, ◌≤◌, Bool, true, List, [], ◌∷◌, length, take, drop, Some, None, subst, ap, ◌∙◌, arith}
use Rattle.std.specs.Prelude.{position}
use Rattle.std.specs.List.{slice_split, onto_first, position_or_len, between}
use Rattle.std.proofs.lemmas.Grind.{common_steps}
use Rattle.std.proofs.lemmas.List.Splits.{slice_split_none, slice_split_first, length-slice_split, slice_split-cons_yes, slice_split-cons_no}
use Rattle.std.proofs.lemmas.List.Sums.{fails_before_first}
use Rattle.std.proofs.lemmas.Slice.{between_to_end}
use Rattle.gm_text.specs.Lines.{is_byte, lines_of_parts, lines_of}

module _ (p : ℕ → Bool) (xs : List ℕ) where
  pub slice_split-position_none : position p xs ≡ None → slice_split p xs ≡ xs ∷ []
  slice_split-position_none none =
      let all : length xs ≤ position_or_len p xs = grind (arith, common_steps) in
      slice_split_none p xs (λ k d in_range. fails_before_first p xs k d (omega arith))

  pub slice_split-position_some : (i : ℕ) → position p xs ≡ Some i → slice_split p xs ≡ take i xs ∷ slice_split p (between (i + 1) (length xs) xs)
  slice_split-position_some i some =
      let at : position_or_len p xs ≡ i = grind (arith, common_steps) in
      let in_range : position_or_len p xs < length xs = grind (arith, common_steps) in
      rw (between_to_end xs (i + 1) (length xs) (omega arith))
      (subst (λ k. slice_split p xs ≡ take k xs ∷ slice_split p (drop (k + 1) xs)) at (slice_split_first p xs 0 in_range))

-- a part before another one is a line that is ended
lines_of_parts-cons : (part : List ℕ) (parts : List (List ℕ)) → 0 < length parts → lines_of_parts (part ∷ parts) ≡ (part, true) ∷ lines_of_parts parts
lines_of_parts-cons part [] some = absurd (omega arith)
lines_of_parts-cons part (next ∷ parts) some = λ i. (part, true) ∷ lines_of_parts (next ∷ parts)

-- what stands before the first LF is the first line, and the lines after it are the others
pub lines_of-cut : (text bytes rest : List ℕ) → slice_split (is_byte 10) text ≡ bytes ∷ slice_split (is_byte 10) rest → lines_of text ≡ (bytes, true) ∷ lines_of rest
lines_of-cut text bytes rest cut =
    ap lines_of_parts cut ∙ lines_of_parts-cons bytes (slice_split (is_byte 10) rest) (omega (arith, length-slice_split (is_byte 10) rest))

-- one more byte in the first part adds one line at most
length-lines_of_parts-onto_first : (byte : ℕ) (parts : List (List ℕ)) → length (lines_of_parts (onto_first byte parts)) ≤ length (lines_of_parts parts) + 1
length-lines_of_parts-onto_first byte [] = omega arith
length-lines_of_parts-onto_first byte (part ∷ []) = grind (arith, common_steps)
length-lines_of_parts-onto_first byte (part ∷ next ∷ parts) = omega arith

-- a text has no more lines than bytes
pub length_lines_of_le : (text : List ℕ) → length (lines_of text) ≤ length text
length_lines_of_le [] = omega arith
length_lines_of_le (byte ∷ bytes) = by (is_byte 10 byte) refl (length_lines_of_le bytes)
  where
    by : (b : Bool) → is_byte 10 byte ≡ b → length (lines_of bytes) ≤ length bytes → length (lines_of (byte ∷ bytes)) ≤ length (byte ∷ bytes)
    by true is rest = omega (arith, rest, ap length (lines_of-cut (byte ∷ bytes) [] bytes (slice_split-cons_yes (is_byte 10) byte bytes is)))
    by false is rest = omega (arith, rest, ap (λ parts. length (lines_of_parts parts)) (slice_split-cons_no (is_byte 10) byte bytes is), length-lines_of_parts-onto_first byte (slice_split (is_byte 10) bytes))

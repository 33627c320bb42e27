-- The text of a list of triples has their lines and no others, so it is read in one way.
use Rattle.std.proofs.Common.{◌≡◌, ℕ, ◌^◌, ◌<◌, refl, true, false, List, [], ◌∷◌, ◌++◌, Bool, map, length, get_or, All, MatchOption, Option, Some, None, ◌==◌, sym, ap, ◌∙◌, arith, decimal, if◌then◌else◌}
use Rattle.std.specs.Char.{is_ascii_digit}
use Rattle.std.specs.List.{list_all, slice_split, join_with_byte}
use Rattle.std.proofs.lemmas.Bool.{ne_eqb, true≢false}
use Rattle.std.proofs.lemmas.Bool.Decides.{nat_tests}
use Rattle.std.proofs.lemmas.Fmt.{decimal_injective}
use Rattle.std.proofs.lemmas.List.{append_assoc, append-nil}
use Rattle.std.proofs.lemmas.List.Elements.{All-append, All-cons, All-head, All-tail}
use Rattle.std.proofs.lemmas.List.Recursion.{and_at}
use Rattle.std.proofs.lemmas.List.Splits.{slice_split_at, slice_split_none, join_with_byte-slice_split}
use Rattle.gm_text.specs.Lines.{is_byte, lines_of_parts, lines_of, words_of}
use Rattle.gm_text.proofs.DecimalLemmas.{decimal_is_canonical}
use Rattle.gm_text.proofs.LinesLemmas.{lines_of-cut}
use Rattle.graph_text.specs.declared.graphs.Triple.{Triple}
use Rattle.graph_text.specs.EdgesText.{IsInRange, edge_words, edge_bytes, edge_line, edges_text, IsReading, IsLineOf, IsEdgeLine, ReadingIsUnique}

-- the line of a triple, as a text has it
abbrev pub text_line : Triple → List ℕ × Bool
text_line triple = (edge_bytes triple, true)

-- a byte stands nowhere in a list
abbrev Lacks : ℕ → List ℕ → Type 0
Lacks byte = All (λ x. is_byte byte x ≡ false)

Lacks-spaced : (byte : ℕ) (word rest : List ℕ) → is_byte byte 32 ≡ false → Lacks byte word → Lacks byte rest → Lacks byte (word ++ (32 ∷ rest))
Lacks-spaced byte word rest apart first others =
    let P : ℕ → Type 0 = λ x. is_byte byte x ≡ false in
    All-append P word (32 ∷ rest) first (All-cons P 32 rest apart others)

Lacks-decimal : (byte n : ℕ) → is_ascii_digit byte ≡ false → n < 2 ^ 64 → Lacks byte (decimal n)
Lacks-decimal byte n apart small k d in_range =
    let digits : list_all is_ascii_digit (decimal n) ≡ true = grind (arith, nat_tests, decimal_is_canonical n small) in
    let digit : is_ascii_digit (get_or (decimal n) k d) ≡ true = and_at (list_all is_ascii_digit) is_ascii_digit refl (λ _ _. refl) (decimal n) k d in_range digits in
    ne_eqb (get_or (decimal n) k d) byte (λ same. true≢false (sym digit ∙ ap is_ascii_digit same ∙ apart))

pub edges_text-append : (xs ys : List Triple) → edges_text (xs ++ ys) ≡ edges_text xs ++ edges_text ys
edges_text-append [] ys = refl
edges_text-append (x ∷ xs) ys = ap (λ text. edge_line x ++ text) (edges_text-append xs ys) ∙ sym (append_assoc (edge_line x) (edges_text xs) (edges_text ys))

module _ (triple : Triple) (within : IsInRange triple) where
  -- a triple's words are those of its bytes
  pub words_of-edge_bytes : words_of (edge_bytes triple) ≡ edge_words triple
  words_of-edge_bytes =
      slice_split_at (is_byte 32) (decimal triple.src) 32 (decimal triple.label ++ (32 ∷ decimal triple.trg)) (Lacks-decimal 32 triple.src refl (omega arith)) refl
      ∙ ap (λ words. decimal triple.src ∷ words)
      (slice_split_at (is_byte 32) (decimal triple.label) 32 (decimal triple.trg) (Lacks-decimal 32 triple.label refl (omega arith)) refl
      ∙ ap (λ words. decimal triple.label ∷ words) (slice_split_none (is_byte 32) (decimal triple.trg) (Lacks-decimal 32 triple.trg refl (omega arith))))

  Lacks-edge_bytes : Lacks 10 (edge_bytes triple)
  Lacks-edge_bytes =
      Lacks-spaced 10 (decimal triple.src) (decimal triple.label ++ (32 ∷ decimal triple.trg)) refl (Lacks-decimal 10 triple.src refl (omega arith))
      (Lacks-spaced 10 (decimal triple.label) (decimal triple.trg) refl (Lacks-decimal 10 triple.label refl (omega arith)) (Lacks-decimal 10 triple.trg refl (omega arith)))

  -- its line is the first one of a text that begins with it
  lines_of-edge_line : (text : List ℕ) → lines_of (edge_line triple ++ text) ≡ text_line triple ∷ lines_of text
  lines_of-edge_line text =
      lines_of-cut (edge_line triple ++ text) (edge_bytes triple) text
      (ap (slice_split (is_byte 10)) (append_assoc (edge_bytes triple) (10 ∷ []) text)
      ∙ slice_split_at (is_byte 10) (edge_bytes triple) 10 text Lacks-edge_bytes refl)

-- the lines of the text of triples are theirs
pub lines_of-edges_text : (triples : List Triple) → All IsInRange triples → lines_of (edges_text triples) ≡ map text_line triples
lines_of-edges_text [] within = refl
lines_of-edges_text (t ∷ ts) within =
    lines_of-edge_line t (All-head IsInRange t ts within) (edges_text ts)
    ∙ ap (λ lines. text_line t ∷ lines) (lines_of-edges_text ts (All-tail IsInRange t ts within))

-- the bytes of lines, one after another
text_of : List (List ℕ × Bool) → List ℕ
text_of [] = []
text_of ((bytes, ended) ∷ lines) = (bytes ++ (if ended then 10 ∷ [] else [])) ++ text_of lines

text_of-last_part : (part : List ℕ) → text_of (lines_of_parts (part ∷ [])) ≡ part
unfolding text_of
text_of-last_part [] = refl
text_of-last_part (byte ∷ bytes) =
    let some : (length (byte ∷ bytes) == 0) ≡ false = ne_eqb (length (byte ∷ bytes)) 0 (λ none. omega arith) in
    rw some (simp append-nil)

text_of-lines_of_parts : (parts : List (List ℕ)) → text_of (lines_of_parts parts) ≡ join_with_byte 10 parts
unfolding text_of
text_of-lines_of_parts [] = refl
text_of-lines_of_parts (part ∷ []) = text_of-last_part part
text_of-lines_of_parts (part ∷ next ∷ parts) = append_assoc part (10 ∷ []) (text_of (lines_of_parts (next ∷ parts))) ∙ ap (λ text. part ++ (10 ∷ text)) (text_of-lines_of_parts (next ∷ parts))

text_of-lines_of : (text : List ℕ) → text_of (lines_of text) ≡ text
text_of-lines_of text = text_of-lines_of_parts (slice_split (is_byte 10) text) ∙ join_with_byte-slice_split 10 text

text_of-map : (triples : List Triple) → text_of (map text_line triples) ≡ edges_text triples
unfolding text_of
text_of-map [] = refl
text_of-map (t ∷ ts) = ap (λ text. edge_line t ++ text) (text_of-map ts)

-- a text whose lines are those of triples is the text of these
pub edges_text-from_lines : (text : List ℕ) (triples : List Triple) → lines_of text ≡ map text_line triples → edges_text triples ≡ text
edges_text-from_lines text triples lines = sym (text_of-map triples) ∙ ap text_of (sym lines) ∙ text_of-lines_of text

edge_words-injective : (s t : Triple) → IsInRange s → IsInRange t → edge_words s ≡ edge_words t → s ≡ t
edge_words-injective s t in_s in_t same =
    let src : s.src ≡ t.src = decimal_injective s.src t.src (omega arith) (omega arith) cc in
    let label : s.label ≡ t.label = decimal_injective s.label t.label (omega arith) (omega arith) cc in
    let trg : s.trg ≡ t.trg = decimal_injective s.trg t.trg (omega arith) (omega arith) cc in
    λ i. record { src = src i; label = label i; trg = trg i }

text_line-injective : (s t : Triple) → IsInRange s → IsInRange t → text_line s ≡ text_line t → s ≡ t
text_line-injective s t in_s in_t same =
    edge_words-injective s t in_s in_t (sym (words_of-edge_bytes s in_s) ∙ ap (λ line. words_of line.0) same ∙ words_of-edge_bytes t in_t)

map-text_line-injective : (xs ys : List Triple) → All IsInRange xs → All IsInRange ys → map text_line xs ≡ map text_line ys → xs ≡ ys
map-text_line-injective [] [] in_xs in_ys same = refl
map-text_line-injective [] (y ∷ ys) in_xs in_ys same = cc
map-text_line-injective (x ∷ xs) [] in_xs in_ys same = cc
map-text_line-injective (x ∷ xs) (y ∷ ys) in_xs in_ys same =
    let first : x ≡ y = text_line-injective x y (All-head IsInRange x xs in_xs) (All-head IsInRange y ys in_ys) cc in
    let others : xs ≡ ys = map-text_line-injective xs ys (All-tail IsInRange x xs in_xs) (All-tail IsInRange y ys in_ys) cc in
    cc

-- triples in range with the same text are the same
pub read-edges_text : (xs ys : List Triple) → All IsInRange xs → All IsInRange ys → edges_text xs ≡ edges_text ys → xs ≡ ys
read-edges_text xs ys in_xs in_ys same =
    map-text_line-injective xs ys in_xs in_ys (sym (lines_of-edges_text xs in_xs) ∙ ap lines_of same ∙ lines_of-edges_text ys in_ys)

-- a text is that of one list at most
pub IsReading-unique : ReadingIsUnique
IsReading-unique text xs ys first second = read-edges_text xs ys first.0 second.0 (first.1 ∙ sym second.1)

-- a text whose lines are those of triples in range is read as these
pub IsReading-from_lines : (text : List ℕ) (triples : List Triple) (rest : List (List ℕ × Bool)) → All IsInRange triples → lines_of text ≡ map text_line triples ++ rest → rest ≡ [] → IsReading text triples
IsReading-from_lines text triples rest within lines end =
    (within, edges_text-from_lines text triples (lines ∙ ap (λ others. map text_line triples ++ others) end ∙ append-nil (map text_line triples)))

-- bytes are a triple's if their words are its words
edge_bytes-from_words : (bytes : List ℕ) (triple : Triple) → words_of bytes ≡ edge_words triple → bytes ≡ edge_bytes triple
edge_bytes-from_words bytes triple words = sym (join_with_byte-slice_split 32 bytes) ∙ ap (join_with_byte 32) words

-- what the words of an ended line say of it
pub IsLineOf-from_words : (bytes : List ℕ) (ended : Bool) (found : Option Triple) → ended ≡ true
    → MatchOption found ((triple : Triple) → IsInRange triple → words_of bytes ≡ edge_words triple → ⊥) (λ triple. IsInRange triple × (words_of bytes ≡ edge_words triple))
    → MatchOption found (¬ IsEdgeLine (bytes, ended)) (IsLineOf (bytes, ended))
IsLineOf-from_words bytes ended None is_ended none = λ (triple, (within, is)). none triple within (ap (λ line. words_of line.0) is ∙ words_of-edge_bytes triple within)
IsLineOf-from_words bytes ended (Some triple) is_ended (within, words) = (within, λ i. (edge_bytes-from_words bytes triple words i, is_ended i))

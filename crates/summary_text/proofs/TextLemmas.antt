-- The lines of a summary, one more at a time, and parts of them.
use Rattle.std.proofs.Common.{◌≡◌, ℕ, ◌+◌, ◌<◌, List, [], ◌∷◌, ◌++◌, length, take, drop, get_or, sym, ap, subst, ◌∙◌, arith}
use Rattle.std.proofs.lemmas.List.{append_assoc, append-nil, take_more, drop_more, take-append-drop, length-take-le}
use Rattle.graph_text.specs.EdgesText.{AppendsPart}
use Rattle.graph_text.proofs.PartLemmas.{AppendsPart-more, AppendsPart-after}
use Rattle.summary_text.specs.Summary.{line_of, constraint_line, constraint_lines}

-- ---- parts that have been appended one after another

pub appended-two : (old one two a b : List ℕ) → one ≡ old ++ a → two ≡ one ++ b → two ≡ old ++ (a ++ b)
appended-two old one two a b first second = rw (second, first) (append_assoc old a b)

pub appended-four : (old one two three four a b c d : List ℕ) → one ≡ old ++ a → two ≡ one ++ b → three ≡ two ++ c → four ≡ three ++ d
    → four ≡ old ++ (a ++ (b ++ (c ++ d)))
appended-four old one two three four a b c d first second third fourth = rw (fourth, third, second, first) (simp append_assoc)

-- ---- a line

line-parts : (kind word number : List ℕ) → ((kind ++ 32 ∷ []) ++ word) ++ (32 ∷ (number ++ 10 ∷ [])) ≡ line_of (kind ∷ word ∷ number ∷ [])
line-parts kind word number = simp append_assoc

-- two words of a line have been appended, and a part of what follows
pub line-begun : (old one two new kind word number : List ℕ) → one ≡ old ++ (kind ++ 32 ∷ []) → two ≡ one ++ word
    → AppendsPart two new (32 ∷ (number ++ 10 ∷ [])) → AppendsPart old new (line_of (kind ∷ word ∷ number ∷ []))
line-begun old one two new kind word number first second part =
    subst (AppendsPart old new) (line-parts kind word number)
    (AppendsPart-after old new two ((kind ++ 32 ∷ []) ++ word) (32 ∷ (number ++ 10 ∷ [])) (appended-two old one two (kind ++ 32 ∷ []) word first second) part)

-- ---- the lines of constraints

constraint_lines-append : (c : ℕ) (ms ns : List ℕ) → constraint_lines c (ms ++ ns) ≡ constraint_lines c ms ++ constraint_lines (c + length ms) ns
constraint_lines-append c [] ns = let none : c ≡ c + 0 = omega arith in ap (λ i. constraint_lines i ns) none
constraint_lines-append c (m ∷ ms) ns =
    let place : c + 1 + length ms ≡ c + length (m ∷ ms) = omega arith in
    ap (λ bytes. constraint_line c m ++ bytes) (constraint_lines-append (c + 1) ms ns)
    ∙ sym (append_assoc (constraint_line c m) (constraint_lines (c + 1) ms) (constraint_lines (c + 1 + length ms) ns))
    ∙ ap (λ i. (constraint_line c m ++ constraint_lines (c + 1) ms) ++ constraint_lines i ns) place

module _ (ns : List ℕ) (i d : ℕ) (within : i < length ns) where
  -- those before a place, and then others from that place on
  constraint_lines-from : (rest : List ℕ) → constraint_lines 0 (take i ns ++ rest) ≡ constraint_lines 0 (take i ns) ++ constraint_lines i rest
  constraint_lines-from rest =
      let count : 0 + length (take i ns) ≡ i = omega (arith, length-take-le i ns (omega (arith, within))) in
      constraint_lines-append 0 (take i ns) rest ∙ ap (λ k. constraint_lines 0 (take i ns) ++ constraint_lines k rest) count

  -- the lines before a place have been appended, and then its own
  pub constraint_lines-more : (old middle new : List ℕ) → middle ≡ old ++ constraint_lines 0 (take i ns)
      → new ≡ middle ++ constraint_line i (get_or ns i d) → new ≡ old ++ constraint_lines 0 (take (i + 1) ns)
  constraint_lines-more old middle new before is =
      appended-two old middle new (constraint_lines 0 (take i ns)) (constraint_line i (get_or ns i d)) before is
      ∙ ap (λ bytes. old ++ bytes) (sym (ap (constraint_lines 0) (take_more ns i d within) ∙ constraint_lines-from (get_or ns i d ∷ [])
      ∙ ap (λ bytes. constraint_lines 0 (take i ns) ++ bytes) (append-nil (constraint_line i (get_or ns i d)))))

  -- the lines before a place have been appended, and then a part of its own
  pub constraint_lines-stopped : (old middle new : List ℕ) → middle ≡ old ++ constraint_lines 0 (take i ns)
      → AppendsPart middle new (constraint_line i (get_or ns i d)) → AppendsPart old new (constraint_lines 0 ns)
  constraint_lines-stopped old middle new before part =
      let all : ns ≡ take i ns ++ (get_or ns i d ∷ drop (i + 1) ns) = sym (take-append-drop i ns) ∙ ap (λ ks. take i ns ++ ks) (drop_more ns i d within) in
      subst (AppendsPart old new) (sym (ap (constraint_lines 0) all ∙ constraint_lines-from (get_or ns i d ∷ drop (i + 1) ns)))
      (AppendsPart-after old new middle (constraint_lines 0 (take i ns)) (constraint_line i (get_or ns i d) ++ constraint_lines (i + 1) (drop (i + 1) ns)) before
      (AppendsPart-more middle new (constraint_line i (get_or ns i d)) (constraint_lines (i + 1) (drop (i + 1) ns)) part))

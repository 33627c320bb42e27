-- Texts of which a part, from their start on, has been appended.
use Rattle.std.proofs.Common.{◌≡◌, ℕ, ◌+◌, ◌<◌, List, [], ◌∷◌, ◌++◌, length, take, drop, get_or, decimal, Result, Ok, Err, OnErr, sym, ap, subst, ◌∙◌, refl}
use Rattle.std.proofs.lemmas.List.{append_assoc, append-nil, drop_more, take_at, take_more, take-append-drop}
use Rattle.graph_text.specs.declared.graphs.Triple.{Triple}
use Rattle.graph_text.specs.EdgesText.{AppendsPart, edge_line, edges_text}
use Rattle.graph_text.proofs.EdgesTextLemmas.{edges_text-append}

-- what holds whatever the answer holds after a refusal
pub OnErr-from : {T E P : Type 0} (r : Result T E) → P → OnErr r P
OnErr-from (Ok x) p = tt
OnErr-from (Err e) p = p

module _ (old new : List ℕ) where
  -- the front of a text has been appended
  pub AppendsPart-front : (front rest : List ℕ) → new ≡ old ++ front → AppendsPart old new (front ++ rest)
  AppendsPart-front front rest is = (length front, is ∙ ap (λ bytes. old ++ bytes) (sym (take_at front rest (length front) refl)))

  -- others follow the text
  pub AppendsPart-more : (text rest : List ℕ) → AppendsPart old new text → AppendsPart old new (text ++ rest)
  AppendsPart-more text rest (kept, is) =
      subst (AppendsPart old new) (sym (append_assoc (take kept text) (drop kept text) rest) ∙ ap (λ bytes. bytes ++ rest) (take-append-drop kept text))
      (AppendsPart-front (take kept text) (drop kept text ++ rest) is)

  -- others have been appended before the text
  pub AppendsPart-after : (middle front text : List ℕ) → middle ≡ old ++ front → AppendsPart middle new text → AppendsPart old new (front ++ text)
  AppendsPart-after middle front text before (kept, is) =
      subst (AppendsPart old new) (append_assoc front (take kept text) (drop kept text) ∙ ap (λ bytes. front ++ bytes) (take-append-drop kept text))
      (AppendsPart-front (front ++ take kept text) (drop kept text) (is ∙ ap (λ bytes. bytes ++ take kept text) before ∙ append_assoc old front (take kept text)))

-- a line is three numbers, each with the byte after it
pub edge_line-parts : (triple : Triple) → (decimal triple.src ++ 32 ∷ []) ++ ((decimal triple.label ++ 32 ∷ []) ++ (decimal triple.trg ++ 10 ∷ [])) ≡ edge_line triple
edge_line-parts triple = simp append_assoc

module _ (xs : List Triple) (i : ℕ) (d : Triple) (in_range : i < length xs) where
  -- the line at an index, between those before it and those after it
  pub edges_text-at : edges_text (take i xs) ++ (edge_line (get_or xs i d) ++ edges_text (drop (i + 1) xs)) ≡ edges_text xs
  edges_text-at =
      sym (edges_text-append (take i xs) (get_or xs i d ∷ drop (i + 1) xs))
      ∙ ap edges_text (ap (λ ys. take i xs ++ ys) (sym (drop_more xs i d in_range)) ∙ take-append-drop i xs)

  -- the lines before an index have been appended, and then its own
  pub edges_text-take_more : (old middle new : List ℕ) → middle ≡ old ++ edges_text (take i xs) → new ≡ middle ++ edge_line (get_or xs i d) → new ≡ old ++ edges_text (take (i + 1) xs)
  edges_text-take_more old middle new before is =
      let more : edges_text (take (i + 1) xs) ≡ edges_text (take i xs) ++ edge_line (get_or xs i d) =
      ap edges_text (take_more xs i d in_range) ∙ edges_text-append (take i xs) (get_or xs i d ∷ [])
      ∙ ap (λ bytes. edges_text (take i xs) ++ bytes) (append-nil (edge_line (get_or xs i d))) in
      rw (is, before, more) (append_assoc old (edges_text (take i xs)) (edge_line (get_or xs i d)))

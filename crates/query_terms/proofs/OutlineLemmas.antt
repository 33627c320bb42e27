-- The terms of a query are numbered from its lists.
use Rattle.std.proofs.Common.{◌≡◌, ℕ, ◌+◌, ◌<◌, true, List, [], ◌∷◌, ◌++◌, length, take, None, is_some, fold, refl, sym, ap, subst, ◌∙◌, append_assoc, append-nil, arith}
use Rattle.std.proofs.lemmas.Bool.{and_parts, ltb-true}
use Rattle.std.specs.List.{list_all, slice_index_or}
use Rattle.gm_text.specs.declared.lists.Span.{Span}
use Rattle.sel_algebra.specs.declared.vocabulary.Symbol.{Symbol}
use Rattle.query_terms.specs.declared.terms.Conjunct.{Conjunct}
use Rattle.query_terms.specs.Values.{ConjunctValue, is_word, is_conjunct}
use Rattle.query_terms.specs.Store.{Placed}
use Rattle.query_terms.specs.Numbering.{numbered, put_union}
use Rattle.query_terms.specs.Underway.{Underway, underway, underway_from, with_choice, with_end}
use Rattle.query_terms.specs.Outline.{after_symbol, after_word, after_conjunct, after_conjuncts}
use Rattle.query_terms.specs.Lists.{words_in, conjunct_in, conjuncts_in}
use Rattle.query_terms.specs.Spans.{cut}
use Rattle.query_terms.proofs.SpanLemmas.{passes_mapped, fold_map_more, cut-map}
use Rattle.query_terms.proofs.TiedLemmas.{step-underway, choice-step, closed-step, numbered-push}

module _ (labels : List ℕ) where
  -- ---- what is begun

  begun-on : (u : Underway) (word : List Symbol) → is_some u.word ≡ true → is_some (fold (after_symbol labels) u word).word ≡ true
  begun-on u [] some = some
  begun-on u (s ∷ word) some = begun-on (after_symbol labels u s) word refl

  -- with a symbol, the term of the word is known
  pub word_known : (u : Underway) (word : List Symbol) → 0 < length word → is_some (fold (after_symbol labels) u word).word ≡ true
  word_known u [] some = absurd (omega (arith, some))
  word_known u (s ∷ word) some = begun-on (after_symbol labels u s) word refl

  union-on : (u : Underway) (words : List (List Symbol)) → is_some u.union ≡ true → is_some (fold (after_word labels) u words).union ≡ true
  union-on u [] some = some
  union-on u (word ∷ words) some = union-on (after_word labels u word) words refl

  -- with a word, the term of the conjunct's words is known
  pub union_known : (u : Underway) (words : List (List Symbol)) → 0 < length words → is_some (fold (after_word labels) u words).union ≡ true
  union_known u [] some = absurd (omega (arith, some))
  union_known u (word ∷ words) some = union-on (after_word labels u word) words refl

  ended-on : (u : Underway) (words : List (List Symbol)) → u.word ≡ None → (fold (after_word labels) u words).word ≡ None
  ended-on u [] none = none
  ended-on u (word ∷ words) none = ended-on (after_word labels u word) words refl

  -- and no word is begun
  pub word_ended : (u : Underway) (words : List (List Symbol)) → 0 < length words → (fold (after_word labels) u words).word ≡ None
  word_ended u [] some = absurd (omega (arith, some))
  word_ended u (word ∷ words) some = ended-on (after_word labels u word) words refl

  -- ---- the numbering of the lists is that of the value

  symbols-underway : (words : List (List Symbol)) (sofar word : List Symbol) (p : Placed)
      → fold (after_symbol labels) (underway_from labels words sofar p) word ≡ underway_from labels words (sofar ++ word) p
  symbols-underway words sofar [] p = ap (λ w. underway_from labels words w p) (sym (append-nil sofar))
  symbols-underway words sofar (s ∷ word) p =
      ap (λ u. fold (after_symbol labels) u word) (step-underway labels words sofar p s)
      ∙ symbols-underway words (sofar ++ s ∷ []) word p
      ∙ ap (λ w. underway_from labels words w p) (append_assoc sofar (s ∷ []) word)

  words-underway : (cs : List ConjunctValue) (sofar words : List (List Symbol)) → list_all (is_word (length labels)) words ≡ true
      → fold (after_word labels) (underway labels cs sofar []) words ≡ underway labels cs (sofar ++ words) []
  words-underway cs sofar [] all = ap (λ ws. underway labels cs ws []) (sym (append-nil sofar))
  words-underway cs sofar (word ∷ words) all =
      let one = and_parts _ _ all in
      let some : 0 < length word = ltb-true 0 (length word) (and_parts _ _ one.0).0 in
      let terms = (numbered labels cs).terms in
      let first : after_word labels (underway labels cs sofar []) word ≡ underway labels cs (sofar ++ word ∷ []) [] =
      ap with_choice (symbols-underway sofar [] word (put_union labels terms sofar)) ∙ choice-step labels terms sofar word some in
      ap (λ u. fold (after_word labels) u words) first
      ∙ words-underway cs (sofar ++ word ∷ []) words one.1
      ∙ ap (λ ws. underway labels cs ws []) (append_assoc sofar (word ∷ []) words)

  conjunct-underway : (cs : List ConjunctValue) (c : ConjunctValue) → is_conjunct (length labels) c ≡ true
      → after_conjunct labels (underway labels cs [] []) c ≡ underway labels (cs ++ c ∷ []) [] []
  conjunct-underway cs c is =
      let parts = and_parts _ _ is in
      let some : 0 < length c.words = ltb-true 0 (length c.words) parts.0 in
      let closes = closed-step labels cs c.words c.src c.trg c.star some in
      let all = numbered-push labels cs c in
      ap (with_end c.star) (words-underway cs [] c.words parts.1)
      ∙ (λ i. record { terms = ((λ j. (closes j).terms) ∙ (λ j. (sym all j).terms)) i; word = None; union = None })

  conjuncts-underway : (sofar cs : List ConjunctValue) → list_all (is_conjunct (length labels)) cs ≡ true
      → fold (after_conjunct labels) (underway labels sofar [] []) cs ≡ underway labels (sofar ++ cs) [] []
  conjuncts-underway sofar [] all = ap (λ ds. underway labels ds [] []) (sym (append-nil sofar))
  conjuncts-underway sofar (c ∷ cs) all =
      let one = and_parts _ _ all in
      ap (λ u. fold (after_conjunct labels) u cs) (conjunct-underway sofar c one.0)
      ∙ conjuncts-underway (sofar ++ c ∷ []) cs one.1
      ∙ ap (λ ds. underway labels ds [] []) (append_assoc sofar (c ∷ []) cs)

  -- conjuncts one after another have the terms of their numbering
  pub after_conjuncts-terms : (cs : List ConjunctValue) → list_all (is_conjunct (length labels)) cs ≡ true → (after_conjuncts labels cs).terms ≡ (numbered labels cs).terms
  after_conjuncts-terms cs all = ap (λ u. u.terms) (conjuncts-underway [] cs all)

-- the words of a conjunct's part keep the rules of words, and there is one
pub part_words : (n : ℕ) (symbols : List Symbol) (words part : List Span) (c : Conjunct) → part ≡ cut words c.words → is_conjunct n (conjunct_in (words_in symbols words) c) ≡ true
    → (list_all (is_word n) (words_in symbols part) ≡ true) × (0 < length (words_in symbols part))
part_words n symbols words part c cuts is =
    let same : cut (words_in symbols words) c.words ≡ words_in symbols part = cut-map (cut symbols) words c.words ∙ ap (words_in symbols) (sym cuts) in
    let parts = and_parts _ _ is in (
      subst (λ ws. list_all (is_word n) ws ≡ true) same parts.1,
      subst (λ ws. 0 < length ws) same (ltb-true 0 (length (cut (words_in symbols words) c.words)) parts.0),
    )

-- a conjunct of a list, and its place in the numbering
module _ (symbols : List Symbol) (words : List Span) (conjuncts : List Conjunct) (i : ℕ) (c : Conjunct) (within : i < length conjuncts) (at : c ≡ slice_index_or conjuncts i c) where
  pub conjunct_is : (n : ℕ) → list_all (is_conjunct n) (conjuncts_in symbols words conjuncts) ≡ true → is_conjunct n (conjunct_in (words_in symbols words) c) ≡ true
  conjunct_is n all =
      let value = conjunct_in (words_in symbols words) in
      subst (λ x. is_conjunct n (value x) ≡ true) (sym at) (passes_mapped (is_conjunct n) value conjuncts i c all within)

  pub conjuncts_more : (labels : List ℕ)
      → after_conjunct labels (after_conjuncts labels (conjuncts_in symbols words (take i conjuncts))) (conjunct_in (words_in symbols words) c)
      ≡ after_conjuncts labels (conjuncts_in symbols words (take (i + 1) conjuncts))
  conjuncts_more labels =
      let value = conjunct_in (words_in symbols words) in
      let none : Underway = record { terms = []; word = None; union = None } in
      ap (λ x. after_conjunct labels (after_conjuncts labels (conjuncts_in symbols words (take i conjuncts))) (value x)) at
      ∙ sym (fold_map_more (after_conjunct labels) value none conjuncts i c within)

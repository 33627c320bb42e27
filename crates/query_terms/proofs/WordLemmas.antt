-- Words that are kept once each: a word that is there has its place, and another goes last.
use Rattle.std.proofs.Common.{◌≡◌, ℕ, ◌+◌, ◌<◌, ◌≤◌, Bool, true, false, ◌||◌, List, [], ◌∷◌, ◌++◌, length, map, take, drop, fold, Option, Some, None, unwrap_or, is_some, if◌then◌else◌, refl, sym, ap, subst, ◌∙◌, true≢false, inl, inr, arith}
use Rattle.std.proofs.lemmas.Bool.{and_parts, cases_Bool, le-leb}
use Rattle.std.proofs.lemmas.List.{map-append, append-nil, take-append-drop, take-append-le, drop-append-le, length-append, length-take-le, length-drop, take_all}
use Rattle.std.proofs.lemmas.List.Folds.{list_any-append, list_all-append}
use Rattle.std.proofs.lemmas.Grind.{flat_map-append}
use Rattle.std.proofs.lemmas.List.Sums.{fold_push}
use Rattle.std.proofs.Math.Seq.{take-append_seam, drop-append-add, take-length}
use Rattle.std.proofs.Math.ListN.{drop_of_length-le}
use Rattle.std.specs.List.{list_all, list_any}
use Rattle.std.specs.Map.{lookup}
use Rattle.std.specs.Cmp.Lexicographic.{pointwise}
use Rattle.gm_text.specs.declared.lists.Span.{Span}
use Rattle.sel_algebra.specs.declared.vocabulary.Symbol.{Symbol}
use Rattle.sel_algebra.specs.contracts.vocabulary.SymbolPartialEq.TheImpl.{eq-value}
use Rattle.query_terms.specs.Spans.{cut, lies, same_symbol, same_word, with_word, distinct, joined, first_of, span_in}
use Rattle.query_terms.specs.Lists.{words_in}
use Rattle.query_terms.specs.Layout.{words_value, spanned, AreKept, AreWords}
use Rattle.query_terms.specs.Building.{symbols_most}
use Rattle.query_terms.proofs.SpanLemmas.{and_true, map_where, list_all_more, cut_same, cut-take, lies_more}

same_test : (s t : Symbol) → eq-value.it s t ≡ same_symbol s t
same_test s t = grind arith

symbol_is : (s t : Symbol) → same_symbol s t ≡ true → s ≡ t
symbol_is s t = grind arith

same_symbol-self : (s : Symbol) → same_symbol s s ≡ true
same_symbol-self s = grind arith

word_is : (v w : List Symbol) → same_word v w ≡ true → v ≡ w
word_is [] [] h = refl
word_is [] (t ∷ w) h = absurd (true≢false (sym h))
word_is (s ∷ v) [] h = absurd (true≢false (sym h))
word_is (s ∷ v) (t ∷ w) h = λ i. symbol_is s t (and_parts _ _ h).0 i ∷ word_is v w (and_parts _ _ h).1 i

same_word-self : (w : List Symbol) → same_word w w ≡ true
same_word-self [] = refl
same_word-self (s ∷ w) = and_true (same_symbol-self s) (same_word-self w)

or_true : (a : Bool) {b : Bool} → b ≡ true → (a || b) ≡ true
or_true true h = refl
or_true false h = h

-- a word is among the kept ones
abbrev pub is_in : List (List Symbol) → List Symbol → Bool
is_in kept w = list_any (same_word w) kept

is_in-more : (kept more : List (List Symbol)) (w : List Symbol) → is_in kept w ≡ true → is_in (kept ++ more) w ≡ true
is_in-more kept more w h = list_any-append (same_word w) kept more ∙ ap (λ b. b || is_in more w) h

is_in-last : (kept : List (List Symbol)) (w : List Symbol) → is_in (kept ++ w ∷ []) w ≡ true
is_in-last [] w = ap (λ b. b || false) (same_word-self w)
is_in-last (v ∷ kept) w = or_true (same_word w v) (is_in-last kept w)

is_in-self : (kept : List (List Symbol)) → list_all (is_in kept) kept ≡ true
is_in-self [] = refl
is_in-self (v ∷ kept) =
    and_true (ap (λ b. b || is_in kept v) (same_word-self v))
    (list_all_more (is_in kept) (is_in (v ∷ kept)) kept (λ w h. or_true (same_word w v) h) (is_in-self kept))

with_word-there : (kept : List (List Symbol)) (w : List Symbol) → is_in kept w ≡ true → with_word kept w ≡ kept
with_word-there kept w there = ap (λ b. if b then kept else kept ++ w ∷ []) there

with_word-new : (kept : List (List Symbol)) (w : List Symbol) → is_in kept w ≡ false → with_word kept w ≡ kept ++ w ∷ []
with_word-new kept w new = ap (λ b. if b then kept else kept ++ w ∷ []) new

with_word-keeps : (kept : List (List Symbol)) (w v : List Symbol) → is_in kept v ≡ true → is_in (with_word kept w) v ≡ true
with_word-keeps kept w v h = elim (cases_Bool (is_in kept w)) [
  | inl there ↦ ap (λ ks. is_in ks v) (with_word-there kept w there) ∙ h
  | inr new ↦ ap (λ ks. is_in ks v) (with_word-new kept w new) ∙ is_in-more kept (w ∷ []) v h
]

with_word-has : (kept : List (List Symbol)) (w : List Symbol) → is_in (with_word kept w) w ≡ true
with_word-has kept w = elim (cases_Bool (is_in kept w)) [
  | inl there ↦ ap (λ ks. is_in ks w) (with_word-there kept w there) ∙ there
  | inr new ↦ ap (λ ks. is_in ks w) (with_word-new kept w new) ∙ is_in-last kept w
]

is_in-later : (words kept : List (List Symbol)) (v : List Symbol) → is_in kept v ≡ true → is_in (fold with_word kept words) v ≡ true
is_in-later [] kept v h = h
is_in-later (w ∷ words) kept v h = is_in-later words (with_word kept w) v (with_word-keeps kept w v h)

is_in-distinct : (words kept : List (List Symbol)) → list_all (is_in (fold with_word kept words)) words ≡ true
is_in-distinct [] kept = refl
is_in-distinct (w ∷ words) kept =
    and_true (is_in-later words (with_word kept w) w (with_word-has kept w)) (is_in-distinct words (with_word kept w))

first_of-more : (kept more : List (List Symbol)) (w : List Symbol) → is_in kept w ≡ true → first_of (kept ++ more) w ≡ first_of kept w
first_of-more [] more w h = absurd (true≢false (sym h))
first_of-more (v ∷ kept) more w h = elim (cases_Bool (same_word w v)) [
  | inl hit ↦ rw hit refl
  | inr miss ↦ rw miss (ap (λ n. length v + n) (first_of-more kept more w (rw miss at h)))
]

span_in-more : (kept more : List (List Symbol)) (w : List Symbol) → is_in kept w ≡ true → span_in (kept ++ more) w ≡ span_in kept w
span_in-more kept more w h = ap (λ n. record { first = n; count = length w }) (first_of-more kept more w h)

first_of-last : (kept : List (List Symbol)) (w : List Symbol) → is_in kept w ≡ false → first_of (kept ++ w ∷ []) w ≡ length (joined kept)
first_of-last [] w new = rw (same_word-self w) refl
first_of-last (v ∷ kept) w new = elim (cases_Bool (same_word w v)) [
  | inl hit ↦ absurd (true≢false (rw hit at new))
  | inr miss ↦ rw (miss, length-append v (joined kept)) (ap (λ n. length v + n) (first_of-last kept w (rw miss at new)))
]

cut_joined : (kept : List (List Symbol)) (w : List Symbol) → is_in kept w ≡ true → cut (joined kept) (span_in kept w) ≡ w
cut_joined [] w h = absurd (true≢false (sym h))
cut_joined (v ∷ kept) w h = elim (cases_Bool (same_word w v)) [
  | inl hit ↦ rw hit (subst (λ u. take (length w) (u ++ joined kept) ≡ w) (word_is w v hit) (take-append_seam w (joined kept)))
  | inr miss ↦ rw miss (ap (take (length w)) (drop-append-add v (joined kept) (first_of kept w)) ∙ cut_joined kept w (rw miss at h))
]

joined-lie : (kept : List (List Symbol)) (w : List Symbol) → is_in kept w ≡ true → first_of kept w + length w ≤ length (joined kept)
joined-lie [] w h = absurd (true≢false (sym h))
joined-lie (v ∷ kept) w h = elim (cases_Bool (same_word w v)) [
  | inl hit ↦ rw (hit, length-append v (joined kept)) (omega (arith, ap length (word_is w v hit)))
  | inr miss ↦ rw (miss, length-append v (joined kept)) (omega (arith, joined-lie kept w (rw miss at h)))
]

joined-push : (kept : List (List Symbol)) (w : List Symbol) → joined (kept ++ w ∷ []) ≡ joined kept ++ w
joined-push kept w = flat_map-append (λ u. u) kept (w ∷ []) ∙ ap (λ u. joined kept ++ u) (append-nil w)

distinct-push : (words : List (List Symbol)) (w : List Symbol) → distinct (words ++ w ∷ []) ≡ with_word (distinct words) w
distinct-push words w = fold_push with_word [] words w

-- the index finds a word where it is, and else nothing
abbrev place : List (List Symbol) → List (List Symbol) → List Symbol → Option Span
place all kept w = if is_in kept w then Some (span_in all w) else None

lookup-spanned : (all kept : List (List Symbol)) (w : List Symbol) → lookup (same_word w) (map (λ v. (v, span_in all v)) kept) ≡ place all kept w
lookup-spanned all [] w = refl
lookup-spanned all (v ∷ kept) w = elim (cases_Bool (same_word w v)) [
  | inl hit ↦ rw hit (ap (λ u. Some (span_in all u)) (sym (word_is w v hit)))
  | inr miss ↦ rw miss (lookup-spanned all kept w)
]

lookup-seen : {K V : Type 0} (seen : K → List Symbol) (test : List Symbol → Bool) (es : List (K × V)) → lookup (λ k. test (seen k)) es ≡ lookup test (map (λ e. (seen e.0, e.1)) es)
lookup-seen seen test [] = refl
lookup-seen seen test (e ∷ es) = ap (λ r. if test (seen e.0) then Some e.1 else r) (lookup-seen seen test es)

words_same : (symbols more : List Symbol) (spans : List Span) (ended : ℕ) → ended ≤ length symbols → list_all (lies ended) spans ≡ true
    → words_in (symbols ++ more) spans ≡ words_in symbols spans
words_same symbols more spans ended within lie =
    map_where (cut (symbols ++ more)) (cut symbols) (lies ended) spans lie
    (λ s l. cut_same (symbols ++ more) symbols ended s (take-append-le ended symbols more within) l)

words_taken : (symbols : List Symbol) (spans : List Span) (ended : ℕ) → list_all (lies ended) spans ≡ true → words_in (take ended symbols) spans ≡ words_in symbols spans
words_taken symbols spans ended lie = map_where (cut (take ended symbols)) (cut symbols) (lies ended) spans lie (λ s l. cut-take symbols ended s l)

-- one symbol more
pub kept_symbol : (symbols : List Symbol) (spans : List Span) (index : List (List Symbol × Span)) (ended taken : ℕ) (s : Symbol)
    → AreKept symbols spans index ended taken → taken < symbols_most → AreKept (symbols ++ s ∷ []) spans index ended (taken + 1)
kept_symbol symbols spans index ended taken s is room =
    let same = words_same symbols (s ∷ []) spans ended is.within is.lie in
    let more : length (symbols ++ s ∷ []) ≡ length symbols + 1 = length-append symbols (s ∷ []) in
    let begun : length (drop ended (symbols ++ s ∷ [])) ≡ length (drop ended symbols) + 1 =
    ap length (drop-append-le ended symbols (s ∷ []) is.within) ∙ length-append (drop ended symbols) (s ∷ []) in
    record {
      within = omega (arith, is.within, more);
      symbols_are = take-append-le ended symbols (s ∷ []) is.within ∙ (is.symbols_are ∙ ap (λ ws. joined (distinct ws)) (sym same));
      spans_are = is.spans_are ∙ ap (λ ws. map (span_in (distinct ws)) ws) (sym same);
      index_is = is.index_is ∙ ap (λ ws. spanned (distinct ws)) (sym same);
      lie = is.lie;
      few_symbols = omega (arith, is.few_symbols, more);
      few_words = omega (arith, is.few_words, begun);
      few = omega (arith, room);
    }

pub value_symbol : (symbols : List Symbol) (spans : List Span) (index : List (List Symbol × Span)) (ended taken : ℕ) (s : Symbol) → AreKept symbols spans index ended taken
    → words_value (symbols ++ s ∷ []) spans ended (taken + 1) ≡ record (words_value symbols spans ended taken) { begun = drop ended symbols ++ s ∷ []; taken = taken + 1 }
value_symbol symbols spans index ended taken s is =
    λ i. record {
      ended = words_same symbols (s ∷ []) spans ended is.within is.lie i;
      begun = drop-append-le ended symbols (s ∷ []) is.within i;
      taken = taken + 1;
    }

-- what the code's index finds
found : {K : Type 0} (kept : List (List Symbol)) (w : List Symbol) (es : List (K × Span)) (seen : K → List Symbol) → map (λ e. (seen e.0, e.1)) es ≡ spanned kept
    → lookup (λ k. pointwise eq-value.it w (seen k)) es ≡ place kept kept w
found kept w es seen is =
    let tests : eq-value.it ≡ same_symbol = λ i s t. same_test s t i in
    lookup-seen seen (pointwise eq-value.it w) es
    ∙ ((λ i. lookup (pointwise (tests i) w) (is i)) ∙ lookup-spanned kept kept w)

none_some : {X : Type 0} {x : X} → None ≡ Some x → ⊥
none_some h = true≢false (sym (ap is_some h))

pub found_there : {K : Type 0} (kept : List (List Symbol)) (w : List Symbol) (es : List (K × Span)) (seen : K → List Symbol) (span : Span) → map (λ e. (seen e.0, e.1)) es ≡ spanned kept
    → Some span ≡ lookup (λ k. pointwise eq-value.it w (seen k)) es → (is_in kept w ≡ true) × (span ≡ span_in kept w)
found_there kept w es seen span is at = elim (cases_Bool (is_in kept w)) [
  | inl there ↦ (there, ap (λ o. unwrap_or o span) (at ∙ (found kept w es seen is ∙ ap (λ b. if b then Some (span_in kept w) else None) there)))
  | inr new ↦ absurd (none_some (sym (at ∙ (found kept w es seen is ∙ ap (λ b. if b then Some (span_in kept w) else None) new))))
]

pub found_none : {K : Type 0} (kept : List (List Symbol)) (w : List Symbol) (es : List (K × Span)) (seen : K → List Symbol) → map (λ e. (seen e.0, e.1)) es ≡ spanned kept
    → None ≡ lookup (λ k. pointwise eq-value.it w (seen k)) es → is_in kept w ≡ false
found_none kept w es seen is none = elim (cases_Bool (is_in kept w)) [
  | inl there ↦ absurd (none_some (none ∙ (found kept w es seen is ∙ ap (λ b. if b then Some (span_in kept w) else None) there)))
  | inr new ↦ new
]

module _ (symbols : List Symbol) (spans : List Span) (index : List (List Symbol × Span)) (ended taken : ℕ) (is : AreKept symbols spans index ended taken) where
  abbrev kept_words : List (List Symbol)
  kept_words = distinct (words_in symbols spans)

  abbrev word : List Symbol
  word = drop ended symbols

  length-taken : length (take ended symbols) ≡ ended
  length-taken = length-take-le ended symbols is.within

  length-kept : length (joined kept_words) ≡ ended
  length-kept = sym (ap length is.symbols_are) ∙ length-taken

  module _ (span : Span) (there : is_in kept_words word ≡ true) (at : span ≡ span_in kept_words word) where
    words_again : words_in (take ended symbols) (spans ++ span ∷ []) ≡ words_in symbols spans ++ word ∷ []
    words_again =
        let last : cut (take ended symbols) span ≡ word =
        ap (cut (take ended symbols)) at ∙ (ap (λ xs. cut xs (span_in kept_words word)) is.symbols_are ∙ cut_joined kept_words word there) in
        map-append (cut (take ended symbols)) spans (span ∷ []) ∙ (λ i. words_taken symbols spans ended is.lie i ++ last i ∷ [])

    kept-again : distinct (words_in (take ended symbols) (spans ++ span ∷ [])) ≡ kept_words
    kept-again = ap distinct words_again ∙ (distinct-push (words_in symbols spans) word ∙ with_word-there kept_words word there)

    none_begun : drop ended (take ended symbols) ≡ []
    none_begun = drop_of_length-le (take ended symbols) (omega (arith, length-taken))

    -- a word that is there takes the place that it has
    pub kept_again : 0 < length word → AreKept (take ended symbols) (spans ++ span ∷ []) index ended taken
    kept_again some =
        let most : span.first + span.count ≤ ended =
        subst (λ s. s.first + s.count ≤ ended) (sym at) (omega (arith, joined-lie kept_words word there, length-kept)) in
        record {
          within = omega (arith, length-taken);
          symbols_are = take_all ended (take ended symbols) (omega (arith, length-taken)) ∙ (is.symbols_are ∙ ap joined (sym kept-again));
          spans_are = (λ i. is.spans_are i ++ at i ∷ [])
              ∙ (sym (map-append (span_in kept_words) (words_in symbols spans) (word ∷ [])) ∙ (λ i. map (span_in (sym kept-again i)) (sym words_again i)));
          index_is = is.index_is ∙ ap spanned (sym kept-again);
          lie = list_all-append (lies ended) spans (span ∷ []) ∙ and_true is.lie (and_true (le-leb _ ended most) refl);
          few_symbols = omega (arith, length-taken, is.within, is.few_symbols);
          few_words = omega (arith, length-append spans (span ∷ []), ap length none_begun, is.few_words, some);
          few = is.few;
        }

    pub value_again : words_value (take ended symbols) (spans ++ span ∷ []) ended taken ≡ record { ended = words_in symbols spans ++ word ∷ []; begun = []; taken = taken }
    value_again = λ i. record { ended = words_again i; begun = none_begun i; taken = taken }

  module _ (span : Span) (new : is_in kept_words word ≡ false) (begins : span.first ≡ ended) (counts : span.count ≡ length word) where
    at_last : span ≡ span_in (kept_words ++ word ∷ []) word
    at_last = λ i. record { first = (begins ∙ (sym length-kept ∙ sym (first_of-last kept_words word new))) i; count = counts i }

    words_new : words_in symbols (spans ++ span ∷ []) ≡ words_in symbols spans ++ word ∷ []
    words_new =
        let last : cut symbols span ≡ word = (λ i. take (counts i) (drop (begins i) symbols)) ∙ take-length word in
        map-append (cut symbols) spans (span ∷ []) ∙ (λ i. words_in symbols spans ++ last i ∷ [])

    kept-new : distinct (words_in symbols (spans ++ span ∷ [])) ≡ kept_words ++ word ∷ []
    kept-new = ap distinct words_new ∙ (distinct-push (words_in symbols spans) word ∙ with_word-new kept_words word new)

    whole : ended + span.count ≡ length symbols
    whole = omega (arith, counts, length-drop ended symbols, is.within)

    all_ended : drop (ended + span.count) symbols ≡ []
    all_ended = drop_of_length-le symbols (omega (arith, whole))

    -- a new word takes its place behind the others
    pub kept_new : 0 < length word → AreKept symbols (spans ++ span ∷ []) (index ++ (word, span) ∷ []) (ended + span.count) taken
    kept_new some =
        let more = kept_words ++ word ∷ [] in
        let old_spans : spans ≡ map (span_in more) (words_in symbols spans) =
        is.spans_are ∙ map_where (span_in kept_words) (span_in more) (is_in kept_words) (words_in symbols spans) (is_in-distinct (words_in symbols spans) [])
        (λ v h. sym (span_in-more kept_words (word ∷ []) v h)) in
        let old_index : index ≡ map (λ v. (v, span_in more v)) kept_words =
        is.index_is ∙ map_where (λ v. (v, span_in kept_words v)) (λ v. (v, span_in more v)) (is_in kept_words) kept_words (is_in-self kept_words)
        (λ v h i. (v, sym (span_in-more kept_words (word ∷ []) v h) i)) in
        record {
          within = omega (arith, whole);
          symbols_are = take_all (ended + span.count) symbols (omega (arith, whole))
              ∙ (sym (take-append-drop ended symbols) ∙ ((λ i. is.symbols_are i ++ word) ∙ (sym (joined-push kept_words word) ∙ ap joined (sym kept-new))));
          spans_are = (λ i. old_spans i ++ at_last i ∷ [])
              ∙ (sym (map-append (span_in more) (words_in symbols spans) (word ∷ [])) ∙ (λ i. map (span_in (sym kept-new i)) (sym words_new i)));
          index_is = (λ i. old_index i ++ (word, at_last i) ∷ [])
              ∙ (sym (map-append (λ v. (v, span_in more v)) kept_words (word ∷ [])) ∙ ap spanned (sym kept-new));
          lie = list_all-append (lies (ended + span.count)) spans (span ∷ [])
              ∙ and_true (list_all_more (lies ended) (lies (ended + span.count)) spans (λ s. lies_more ended (ended + span.count) s (omega arith)) is.lie)
              (and_true (le-leb (span.first + span.count) (ended + span.count) (omega (arith, begins))) refl);
          few_symbols = is.few_symbols;
          few_words = omega (arith, length-append spans (span ∷ []), ap length all_ended, is.few_words, some);
          few = is.few;
        }

    pub value_new : words_value symbols (spans ++ span ∷ []) (ended + span.count) taken ≡ record { ended = words_in symbols spans ++ word ∷ []; begun = []; taken = taken }
    value_new = λ i. record { ended = words_new i; begun = all_ended i; taken = taken }

  -- where no word is begun the lists are those of the words
  pub kept_lists : word ≡ [] → AreWords symbols spans
  kept_lists none =
      let whole : length symbols ≡ ended = omega (arith, ap length none, length-drop ended symbols, is.within) in
      record {
        symbols_are = sym (take_all ended symbols (omega (arith, whole))) ∙ is.symbols_are;
        words_are = is.spans_are;
        words_lie = ap (λ n. list_all (lies n) spans) whole ∙ is.lie;
      }

-- The terms of a query: the labels of their steps, and how many there are.
use Rattle.std.proofs.Common.{◌≡◌, ℕ, zero, suc, ◌+◌, ◌*◌, ◌<◌, ◌≤◌, Bool, true, false, nat_lt, nat_le, if◌then◌else◌, List, [], ◌∷◌, ◌++◌, length, fold, slice_index, refl, ◌∙◌, arith}
use Rattle.std.specs.List.{list_all}
use Rattle.std.proofs.lemmas.Bool.{and_parts}
use Rattle.std.proofs.lemmas.List.{length-append}
use Rattle.std.proofs.lemmas.List.Folds.{list_all-append}
use Rattle.sel_algebra.specs.declared.vocabulary.Symbol.{Symbol}
use Rattle.query_terms.specs.declared.terms.Term.{Term}
use Rattle.query_terms.specs.declared.terms.Term.TheVariants.{Seq, Alt, Star}
use Rattle.query_terms.specs.Values.{ConjunctValue, has_edge}
use Rattle.query_terms.specs.Store.{Placed, number_of, put_of}
use Rattle.query_terms.specs.Numbering.{step_of, then_symbol, put_word, then_word, put_union, starred, Numbered, then_conjunct, numbered}
use Rattle.workload_text.specs.Values.{is_short_word, is_short_union}
use Rattle.sparql_emit.specs.Laws.{has_label}
use Rattle.query_texts.proofs.RuleLemmas.{both, from-below, from-at_most}

-- a number at a place of a list of which each number passes
pub passes-at : (p : ℕ → Bool) (xs : List ℕ) (k : ℕ) → k < length xs → list_all p xs ≡ true → p (slice_index xs k) ≡ true
passes-at p [] k within all = absurd (omega (arith, within))
passes-at p (x ∷ xs) zero within all = (and_parts (p x) (list_all p xs) all).0
passes-at p (x ∷ xs) (suc k) within all = passes-at p xs k (omega (arith, within)) (and_parts (p x) (list_all p xs) all).1

either : {X : Type 0} (P : X → Type 0) (b : Bool) (x y : X) → P x → P y → P (if b then x else y)
either P true x y p q = p
either P false x y p q = q

-- a conjunct's words and symbols are few
abbrev pub is_short : ℕ → ConjunctValue → Bool
is_short edges c = is_short_union edges c.words

-- where each label of the edges is below n
module _ (labels : List ℕ) (n : ℕ) (known : list_all (λ l. nat_lt l n) labels ≡ true) where
  -- so is that of each step of the terms, which are at most so many
  pub record AreFew (most : ℕ) (terms : List Term) : Type 0 where
    pub labelled : list_all (has_label n) terms ≡ true
    pub few : length terms ≤ most

  fewer : (m most : ℕ) (terms : List Term) → m ≤ most → AreFew m terms → AreFew most terms
  fewer m most terms le are = record { labelled = are.labelled; few = omega (arith, le, are.few) }

  put : (m : ℕ) (terms : List Term) (term : Term) → has_label n term ≡ true → AreFew m terms → AreFew (m + 1) (put_of terms term).terms
  put m terms term labelled are =
      either (AreFew (m + 1)) (nat_lt (number_of terms term) (length terms)) terms (terms ++ term ∷ [])
      (record { labelled = are.labelled; few = omega (arith, are.few) })
      (record {
        labelled = list_all-append (has_label n) terms (term ∷ []) ∙ both _ _ are.labelled (both (has_label n term) true labelled refl);
        few = omega (arith, are.few, length-append terms (term ∷ []));
      })

  symbol : (m : ℕ) (p : Placed) (s : Symbol) → has_edge (length labels) s ≡ true → AreFew m p.terms → AreFew (m + 2) (then_symbol labels p s).terms
  symbol m p s edge are =
      let step = put_of p.terms (step_of labels s) in
      let stepped = put m p.terms (step_of labels s) (passes-at (λ l. nat_lt l n) labels s.edge (from-below s.edge (length labels) edge) known) are in
      fewer (m + 1 + 1) (m + 2) (put_of step.terms (Seq p.number step.number)).terms (omega arith) (put (m + 1) step.terms (Seq p.number step.number) refl stepped)

  symbols : (m : ℕ) (p : Placed) (word : List Symbol) → list_all (has_edge (length labels)) word ≡ true → AreFew m p.terms
      → AreFew (m + 2 * length word) (fold (then_symbol labels) p word).terms
  symbols m p [] edges are = fewer m (m + 2 * 0) p.terms (omega arith) are
  symbols m p (s ∷ word) edges are =
      let parts = and_parts (has_edge (length labels) s) (list_all (has_edge (length labels)) word) edges in
      fewer (m + 2 + 2 * length word) (m + 2 * length (s ∷ word)) (fold (then_symbol labels) (then_symbol labels p s) word).terms (omega arith)
      (symbols (m + 2) (then_symbol labels p s) word parts.1 (symbol m p s parts.0 are))

  word-few : (m : ℕ) (terms : List Term) (word : List Symbol) → is_short_word (length labels) word ≡ true → AreFew m terms → AreFew (m + 64) (put_word labels terms word).terms
  word-few m terms [] short are = fewer m (m + 64) terms (omega arith) are
  word-few m terms (s ∷ word) short are =
      let parts = and_parts (nat_le (length (s ∷ word)) 32) (list_all (has_edge (length labels)) (s ∷ word)) short in
      let edges = and_parts (has_edge (length labels) s) (list_all (has_edge (length labels)) word) parts.1 in
      let step = put_of terms (step_of labels s) in
      let stepped = put m terms (step_of labels s) (passes-at (λ l. nat_lt l n) labels s.edge (from-below s.edge (length labels) edges.0) known) are in
      fewer (m + 1 + 2 * length word) (m + 64) (fold (then_symbol labels) step word).terms (omega (arith, from-at_most (length (s ∷ word)) 32 parts.0))
      (symbols (m + 1) step word edges.1 stepped)

  words-few : (m : ℕ) (p : Placed) (words : List (List Symbol)) → list_all (is_short_word (length labels)) words ≡ true → AreFew m p.terms
      → AreFew (m + 65 * length words) (fold (then_word labels) p words).terms
  words-few m p [] short are = fewer m (m + 65 * 0) p.terms (omega arith) are
  words-few m p (word ∷ words) short are =
      let parts = and_parts (is_short_word (length labels) word) (list_all (is_short_word (length labels)) words) short in
      let w = put_word labels p.terms word in
      let chosen = put (m + 64) w.terms (Alt p.number w.number) refl (word-few m p.terms word parts.0 are) in
      fewer (m + 64 + 1 + 65 * length words) (m + 65 * length (word ∷ words)) (fold (then_word labels) (then_word labels p word) words).terms (omega arith)
      (words-few (m + 64 + 1) (then_word labels p word) words parts.1 chosen)

  union-few : (m : ℕ) (terms : List Term) (words : List (List Symbol)) → is_short_union (length labels) words ≡ true → AreFew m terms → AreFew (m + 520) (put_union labels terms words).terms
  union-few m terms [] short are = fewer m (m + 520) terms (omega arith) are
  union-few m terms (word ∷ words) short are =
      let parts = and_parts (nat_le (length (word ∷ words)) 8) (list_all (is_short_word (length labels)) (word ∷ words)) short in
      let each = and_parts (is_short_word (length labels) word) (list_all (is_short_word (length labels)) words) parts.1 in
      fewer (m + 64 + 65 * length words) (m + 520) (fold (then_word labels) (put_word labels terms word) words).terms
      (omega (arith, from-at_most (length (word ∷ words)) 8 parts.0))
      (words-few (m + 64) (put_word labels terms word) words each.1 (word-few m terms word each.0 are))

  starred-few : (m : ℕ) (star : Bool) (p : Placed) → AreFew m p.terms → AreFew (m + 1) (starred star p).terms
  starred-few m true p are = put m p.terms (Star p.number) refl are
  starred-few m false p are = fewer m (m + 1) p.terms (omega arith) are

  conjuncts-few : (m : ℕ) (done : Numbered) (cs : List ConjunctValue) → list_all (is_short (length labels)) cs ≡ true → AreFew m done.terms
      → AreFew (m + 521 * length cs) (fold (then_conjunct labels) done cs).terms
  conjuncts-few m done [] short are = fewer m (m + 521 * 0) done.terms (omega arith) are
  conjuncts-few m done (c ∷ cs) short are =
      let parts = and_parts (is_short (length labels) c) (list_all (is_short (length labels)) cs) short in
      let union = union-few m done.terms c.words parts.0 are in
      let one = starred-few (m + 520) c.star (put_union labels done.terms c.words) union in
      fewer (m + 520 + 1 + 521 * length cs) (m + 521 * length (c ∷ cs)) (fold (then_conjunct labels) (then_conjunct labels done c) cs).terms (omega arith)
      (conjuncts-few (m + 520 + 1) (then_conjunct labels done c) cs parts.1 one)

  pub terms-are_few : (cs : List ConjunctValue) → list_all (is_short (length labels)) cs ≡ true → AreFew (521 * length cs) (numbered labels cs).terms
  terms-are_few cs short =
      fewer (0 + 521 * length cs) (521 * length cs) (numbered labels cs).terms (omega arith)
      (conjuncts-few 0 (record { terms = []; numbers = [] }) cs short (record { labelled = refl; few = omega arith }))

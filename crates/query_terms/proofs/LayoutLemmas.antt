-- Conjuncts and rules, laid one after the other.
use Rattle.std.proofs.Common.{◌≡◌, ℕ, ◌-◌, ◌<◌, ◌≤◌, true, List, [], ◌∷◌, ◌++◌, length, map, take, drop, refl, sym, ap, ◌∙◌, arith}
use Rattle.std.proofs.lemmas.Bool.{and_parts}
use Rattle.std.proofs.lemmas.List.{map-append, take-append-le, drop-append-le, length-append, length-drop, take_rest, length-map}
use Rattle.std.proofs.lemmas.List.Folds.{list_all-append}
use Rattle.std.proofs.Math.Seq.{drop-length}
use Rattle.std.proofs.Math.ListN.{drop_of_length-le}
use Rattle.std.specs.List.{list_all}
use Rattle.gm_text.specs.declared.lists.Span.{Span}
use Rattle.sel_algebra.specs.declared.vocabulary.Symbol.{Symbol}
use Rattle.query_terms.specs.declared.terms.Conjunct.{Conjunct}
use Rattle.query_terms.specs.declared.terms.Rule.{Rule}
use Rattle.query_terms.specs.Values.{ConjunctValue}
use Rattle.query_terms.specs.Spans.{cut, lies, covers}
use Rattle.query_terms.specs.Lists.{heads_in, is_heads, words_in, conjunct_in, rule_in}
use Rattle.query_terms.specs.Layout.{WordsValue, layout_value, with_conjunct, with_rule, IsLaid, AreWords, AreLists}
use Rattle.query_terms.specs.Building.{symbols_most}
use Rattle.query_terms.proofs.SpanLemmas.{and_true, cut_same, covers-lie, covers-push}

conjuncts_same : (V W : List (List Symbol)) (n : ℕ) (cs : List Conjunct) → take n V ≡ take n W → list_all (lies n) (map (λ c. c.words) cs) ≡ true
    → map (conjunct_in V) cs ≡ map (conjunct_in W) cs
conjuncts_same V W n [] same lie = refl
conjuncts_same V W n (c ∷ cs) same lie =
    λ i. record { src = c.src; trg = c.trg; star = c.star; words = cut_same V W n c.words same (and_parts _ _ lie).0 i } ∷ conjuncts_same V W n cs same (and_parts _ _ lie).1 i

rules_same : (V W : List ConjunctValue) (n : ℕ) (rs : List Rule) → take n V ≡ take n W → list_all (lies n) (map (λ r. r.conjuncts) rs) ≡ true
    → map (rule_in V) rs ≡ map (rule_in W) rs
rules_same V W n [] same lie = refl
rules_same V W n (r ∷ rs) same lie =
    λ i. record { heads = heads_in r.heads; conjuncts = cut_same V W n r.conjuncts same (and_parts _ _ lie).0 i } ∷ rules_same V W n rs same (and_parts _ _ lie).1 i

module _ (W : WordsValue) (cs : List Conjunct) (rs : List Rule) (fw fc : ℕ) (is : IsLaid W cs rs fw fc) where
  abbrev values : List ConjunctValue
  values = map (conjunct_in W.ended) cs

  length-values : length values ≡ length cs
  length-values = length-map cs (conjunct_in W.ended)

  -- a symbol more
  pub laid_symbol : (begun : List Symbol) (taken : ℕ) → IsLaid (record W { begun = begun; taken = taken }) cs rs fw fc
  laid_symbol begun taken = record {
    words_within = is.words_within;
    words_cover = is.words_cover;
    few_conjuncts = is.few_conjuncts;
    few_words = is.few_words;
    conjuncts_within = is.conjuncts_within;
    conjuncts_cover = is.conjuncts_cover;
    heads = is.heads;
  }

  -- a word more
  pub laid_word : (word : List Symbol) → IsLaid (record W { ended = W.ended ++ word ∷ []; begun = [] }) cs rs fw fc
  laid_word word = record {
    words_within = omega (arith, is.words_within, length-append W.ended (word ∷ []));
    words_cover = is.words_cover;
    few_conjuncts = is.few_conjuncts;
    few_words = is.few_words;
    conjuncts_within = is.conjuncts_within;
    conjuncts_cover = is.conjuncts_cover;
    heads = is.heads;
  }

  pub value_word : (word : List Symbol) → layout_value (record W { ended = W.ended ++ word ∷ []; begun = [] }) cs rs fw fc
      ≡ record (layout_value W cs rs fw fc) { words = drop fw W.ended ++ word ∷ []; word = [] }
  value_word word =
      let same : map (conjunct_in (W.ended ++ word ∷ [])) cs ≡ values =
      conjuncts_same (W.ended ++ word ∷ []) W.ended fw cs (take-append-le fw W.ended (word ∷ []) is.words_within) (covers-lie 0 _ fw is.words_cover) in
      λ i. record {
        rules = map (rule_in (same i)) rs;
        conjuncts = drop fc (same i);
        words = drop-append-le fw W.ended (word ∷ []) is.words_within i;
        word = [];
        numbers = map (λ c. c.term) cs;
        taken = W.taken;
      }

  module _ (c : Conjunct) (begins : c.words.first ≡ fw) (counts : c.words.count ≡ length W.ended - fw) where
    -- a conjunct more
    pub laid_conjunct : 0 < length (drop fw W.ended) → length W.ended ≤ symbols_most → IsLaid W (cs ++ c ∷ []) rs (length W.ended) fc
    laid_conjunct some few = record {
      words_within = omega arith;
      words_cover = ap (λ ss. covers 0 ss (length W.ended)) (map-append (λ d. d.words) cs (c ∷ []))
          ∙ covers-push 0 (map (λ d. d.words) cs) fw c.words (length W.ended) is.words_cover begins (omega (arith, counts, is.words_within));
      few_conjuncts = omega (arith, length-append cs (c ∷ []), is.few_conjuncts, some, length-drop fw W.ended);
      few_words = few;
      conjuncts_within = omega (arith, length-append cs (c ∷ []), is.conjuncts_within);
      conjuncts_cover = is.conjuncts_cover;
      heads = is.heads;
    }

    pub value_conjunct : layout_value W (cs ++ c ∷ []) rs (length W.ended) fc
        ≡ with_conjunct (layout_value W cs rs fw fc) (record { src = c.src; trg = c.trg; star = c.star; words = drop fw W.ended }) c.term
    value_conjunct =
        let words : cut W.ended c.words ≡ drop fw W.ended = (λ i. take (counts i) (drop (begins i) W.ended)) ∙ take_rest W.ended fw in
        let last : conjunct_in W.ended c ≡ record { src = c.src; trg = c.trg; star = c.star; words = drop fw W.ended } =
        λ i. record { src = c.src; trg = c.trg; star = c.star; words = words i } in
        let all : map (conjunct_in W.ended) (cs ++ c ∷ []) ≡ values ++ record { src = c.src; trg = c.trg; star = c.star; words = drop fw W.ended } ∷ [] =
        map-append (conjunct_in W.ended) cs (c ∷ []) ∙ (λ i. values ++ last i ∷ []) in
        let within : fc ≤ length values = omega (arith, length-values, is.conjuncts_within) in
        λ i. record {
          rules = (ap (λ vs. map (rule_in vs) rs) all ∙ rules_same _ values fc rs (take-append-le fc values _ within) (covers-lie 0 _ fc is.conjuncts_cover)) i;
          conjuncts = (ap (drop fc) all ∙ drop-append-le fc values _ within) i;
          words = drop-length W.ended i;
          word = W.begun;
          numbers = map-append (λ d. d.term) cs (c ∷ []) i;
          taken = W.taken;
        }

  module _ (r : Rule) (begins : r.conjuncts.first ≡ fc) (counts : r.conjuncts.count ≡ length cs - fc) where
    -- a rule more
    pub laid_rule : is_heads r.heads ≡ true → IsLaid W cs (rs ++ r ∷ []) fw (length cs)
    laid_rule heads = record {
      words_within = is.words_within;
      words_cover = is.words_cover;
      few_conjuncts = is.few_conjuncts;
      few_words = is.few_words;
      conjuncts_within = omega arith;
      conjuncts_cover = ap (λ ss. covers 0 ss (length cs)) (map-append (λ s. s.conjuncts) rs (r ∷ []))
          ∙ covers-push 0 (map (λ s. s.conjuncts) rs) fc r.conjuncts (length cs) is.conjuncts_cover begins (omega (arith, counts, is.conjuncts_within));
      heads = list_all-append (λ s. is_heads s.heads) rs (r ∷ []) ∙ and_true is.heads (and_true heads refl);
    }

    pub value_rule : layout_value W cs (rs ++ r ∷ []) fw (length cs) ≡ with_rule (layout_value W cs rs fw fc) (record { heads = heads_in r.heads; conjuncts = drop fc values })
    value_rule =
        let count : r.conjuncts.count ≡ length values - fc = omega (arith, counts, length-values) in
        let conjuncts : cut values r.conjuncts ≡ drop fc values = (λ i. take (count i) (drop (begins i) values)) ∙ take_rest values fc in
        λ i. record {
          rules = (map-append (rule_in values) rs (r ∷ []) ∙ (λ j. map (rule_in values) rs ++ record { heads = heads_in r.heads; conjuncts = conjuncts j } ∷ [])) i;
          conjuncts = drop_of_length-le values {i = length cs} (omega (arith, length-values)) i;
          words = drop fw W.ended;
          word = W.begun;
          numbers = map (λ d. d.term) cs;
          taken = W.taken;
        }

  -- with nothing begun, the lists are those of a query
  pub whole_lists : (symbols : List Symbol) (words : List Span) → AreWords symbols words → words_in symbols words ≡ W.ended → drop fc values ≡ [] → drop fw W.ended ≡ []
      → AreLists (layout_value W cs rs fw fc) symbols words cs rs
  whole_lists symbols words kept same no_conjunct no_word =
      let ended : length words ≡ length W.ended = sym (length-map words (cut symbols)) ∙ ap length same in
      let all_words : fw ≡ length words = omega (arith, ended, is.words_within, ap length no_word, length-drop fw W.ended) in
      let all_conjuncts : fc ≡ length cs = omega (arith, is.conjuncts_within, ap length no_conjunct, length-drop fc values, length-values) in
      record {
        kept = kept;
        words_cover = ap (covers 0 (map (λ c. c.words) cs)) (sym all_words) ∙ is.words_cover;
        conjuncts_cover = ap (covers 0 (map (λ r. r.conjuncts) rs)) (sym all_conjuncts) ∙ is.conjuncts_cover;
        heads = is.heads;
        rules_are = ap (λ ws. map (rule_in (map (conjunct_in ws) cs)) rs) same;
        numbers_are = refl;
      }

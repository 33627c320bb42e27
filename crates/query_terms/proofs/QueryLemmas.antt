-- A finished query has the terms of its rules, which keep the rules of queries.
use Rattle.std.proofs.Common.{◌≡◌, ℕ, ◌-◌, ◌<◌, true, List, [], ◌∷◌, ◌++◌, length, map, nat_lt, refl, sym, ap, ◌∙◌, arith}
use Rattle.std.proofs.lemmas.Bool.{and_parts, lt-ltb}
use Rattle.std.proofs.lemmas.List.{append-nil, take_all, length-map}
use Rattle.std.proofs.lemmas.List.Folds.{list_all-append, flat_map-map}
use Rattle.std.specs.List.{list_all}
use Rattle.gm_text.specs.declared.lists.Span.{Span}
use Rattle.sel_algebra.specs.declared.vocabulary.Symbol.{Symbol}
use Rattle.query_terms.specs.declared.terms.Conjunct.{Conjunct}
use Rattle.query_terms.specs.declared.terms.Rule.{Rule}
use Rattle.query_terms.specs.Lists.{words_in, conjunct_in, conjuncts_in, rule_in, rules_in}
use Rattle.query_terms.specs.Spans.{cut, covers}
use Rattle.query_terms.specs.Values.{RuleValue, conjuncts_of, is_conjunct, is_rule, are_rules}
use Rattle.query_terms.specs.Numbering.{numbered, numbering}
use Rattle.query_terms.specs.Underway.{Underway, underway}
use Rattle.query_terms.specs.Layout.{LayoutValue}
use Rattle.query_terms.specs.Tied.{IsBuilding}
use Rattle.query_terms.proofs.SpanLemmas.{and_true, covers-join}
use Rattle.query_terms.proofs.TreeLemmas.{are_numbered}

-- the conjuncts of rules keep the rules of conjuncts
pub conjuncts_keep : (edges : ℕ) (rules : List RuleValue) → list_all (is_rule edges) rules ≡ true → list_all (is_conjunct edges) (conjuncts_of rules) ≡ true
conjuncts_keep edges [] h = refl
conjuncts_keep edges (r ∷ rules) h =
    let one = (and_parts _ _ (and_parts _ _ (and_parts _ _ h).0).0).1 in
    list_all-append (is_conjunct edges) r.conjuncts (conjuncts_of rules) ∙ and_true one (conjuncts_keep edges rules (and_parts _ _ h).1)

-- the conjuncts of the rules are those of the query
pub conjuncts_are : (symbols : List Symbol) (words : List Span) (conjuncts : List Conjunct) (rules : List Rule)
    → covers 0 (map (λ r. r.conjuncts) rules) (length conjuncts) ≡ true → conjuncts_of (rules_in symbols words conjuncts rules) ≡ conjuncts_in symbols words conjuncts
conjuncts_are symbols words conjuncts rules cover =
    let cs = conjuncts_in symbols words conjuncts in
    flat_map-map (λ r. r.conjuncts) (rule_in cs) rules
    ∙ (sym (flat_map-map (cut cs) (λ r. r.conjuncts) rules)
    ∙ (covers-join cs 0 (map (λ r. r.conjuncts) rules) (length conjuncts) cover
    ∙ take_all (length conjuncts - 0) cs (omega (arith, length-map conjuncts (conjunct_in (words_in symbols words))))))

module _ (labels : List ℕ) (l : LayoutValue) (u : Underway) (rules : List RuleValue) (is : IsBuilding labels l u) (same : rules ≡ l.rules) where
  pub whole_rules : 0 < length l.rules → are_rules (length labels) rules ≡ true
  whole_rules some = ap (are_rules (length labels)) same ∙ and_true (and_true (lt-ltb 0 (length l.rules) some) is.rules) is.heads

  all_conjuncts : l.conjuncts ≡ [] → conjuncts_of l.rules ++ l.conjuncts ≡ conjuncts_of rules
  all_conjuncts none = ap (λ cs. conjuncts_of l.rules ++ cs) none ∙ (append-nil (conjuncts_of l.rules) ∙ ap conjuncts_of (sym same))

  pub whole_terms : l.conjuncts ≡ [] → l.words ≡ [] → l.word ≡ [] → u.terms ≡ (numbering labels rules).terms
  whole_terms no_conjunct no_word no_symbol =
      ap (λ v. v.terms) is.terms_are ∙ (λ i. (underway labels (all_conjuncts no_conjunct i) (no_word i) (no_symbol i)).terms)

  pub whole_numbers : l.conjuncts ≡ [] → l.numbers ≡ (numbering labels rules).numbers
  whole_numbers no_conjunct = is.numbers_are ∙ ap (λ cs. (numbered labels cs).numbers) (all_conjuncts no_conjunct)

  pub whole_inside : list_all (λ k. nat_lt k (length (numbering labels rules).terms)) (numbering labels rules).numbers ≡ true
  whole_inside =
      (are_numbered labels (conjuncts_of rules) (ap (λ rs. list_all (is_conjunct (length labels)) (conjuncts_of rs)) same ∙ conjuncts_keep (length labels) l.rules is.rules)).inside

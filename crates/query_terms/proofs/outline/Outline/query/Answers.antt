use Rattle.std.proofs.Common.{◌≡◌, ◌∙◌, true, List, length, map, nat_lt, sym, ap, subst}
use Rattle.std.proofs.lemmas.Bool.{and_parts}
use Rattle.std.proofs.lemmas.List.Folds.{list_all-map}
use Rattle.std.specs.List.{list_all}
use Rattle.query_terms.specs.declared.terms.Conjunct.{Conjunct}
use Rattle.query_terms.specs.Values.{ConjunctValue, is_conjunct, conjuncts_of}
use Rattle.query_terms.specs.Spans.{lies}
use Rattle.query_terms.specs.Lists.{conjuncts_in, rules_in}
use Rattle.query_terms.specs.Numbering.{numbered}
use Rattle.query_terms.proofs.SpanLemmas.{covers-lie}
use Rattle.query_terms.proofs.QueryLemmas.{conjuncts_are, conjuncts_keep}
use Rattle.query_terms.proofs.TreeLemmas.{are_numbered}
use Rattle.query_terms.proofs.OutlineLemmas.{after_conjuncts-terms}
use Rattle.query_terms.proofs.outline.Outline.query.Goals as goal

pub number_terms-requires-clause-share : goal.number_terms-requires-clause-share
number_terms-requires-clause-share c =
    let s = c.self.inside in
    let n = length s.words.now in
    sym (list_all-map (lies n) (λ (d : Conjunct). d.words) s.conjuncts.now) ∙ covers-lie 0 (map (λ d. d.words) s.conjuncts.now) n c.self.invariant.words_cover

pub number_terms-requires-clause-conjuncts : goal.number_terms-requires-clause-conjuncts
number_terms-requires-clause-conjuncts c =
    let s = c.self.inside in
    let is = c.self.invariant in
    let n = length s.labels.now in
    let rules = rules_in s.symbols.now s.words.now s.conjuncts.now s.rules.now in
    subst (λ (cs : List ConjunctValue). list_all (is_conjunct n) cs ≡ true) (conjuncts_are s.symbols.now s.words.now s.conjuncts.now s.rules.now is.conjuncts_cover)
    (conjuncts_keep n rules (and_parts _ _ (and_parts _ _ is.rules_are).0).1)

pub invariant_of-result : goal.invariant_of-result
invariant_of-result c =
    let s = c.self.inside in
    let is = c.self.invariant in
    let labels = s.labels.now in
    let n = length labels in
    let rules = rules_in s.symbols.now s.words.now s.conjuncts.now s.rules.now in
    let keep = conjuncts_keep n rules (and_parts _ _ (and_parts _ _ is.rules_are).0).1 in
    let same = conjuncts_are s.symbols.now s.words.now s.conjuncts.now s.rules.now is.conjuncts_cover in
    let cs = conjuncts_in s.symbols.now s.words.now s.conjuncts.now in
    let all = subst (λ (ds : List ConjunctValue). list_all (is_conjunct n) ds ≡ true) same keep in
    let terms = c.in_ok-terms.ensures ∙ after_conjuncts-terms labels cs all ∙ ap (λ ds. (numbered labels ds).terms) (sym same) in
    record {
      symbols_are = is.kept.symbols_are;
      words_are = is.kept.words_are;
      words_lie = is.kept.words_lie;
      conjuncts_cover = is.words_cover;
      rules_cover = is.conjuncts_cover;
      conjuncts_lie = covers-lie 0 (map (λ d. d.words) s.conjuncts.now) (length s.words.now) is.words_cover;
      rules_lie = covers-lie 0 (map (λ r. r.conjuncts) s.rules.now) (length s.conjuncts.now) is.conjuncts_cover;
      heads_are = is.heads;
      rules_are = is.rules_are;
      class_is = is.class_is;
      wide_is = is.wide_is;
      terms_are = terms;
      numbers_are = is.numbers_are;
      terms_lie = (λ i. list_all (λ k. nat_lt k (length (terms i))) (is.numbers_are i)) ∙ (are_numbered labels (conjuncts_of rules) keep).inside;
    }

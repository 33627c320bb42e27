use Rattle.std.proofs.Common.{length, map, nat_lt, sym, ap, ◌∙◌}
use Rattle.std.specs.List.{list_all}
use Rattle.query_terms.specs.Values.{has_class}
use Rattle.query_terms.specs.Lists.{rules_in}
use Rattle.query_terms.proofs.SpanLemmas.{covers-lie}
use Rattle.query_terms.proofs.QueryLemmas.{whole_rules, whole_terms, whole_numbers, whole_inside}
use Rattle.query_terms.proofs.building.QueryBuilder.finish.Goals as goal

pub invariant_of-result : goal.invariant_of-result
invariant_of-result c =
    let s = c.self.inside in
    let labels = s.labels.now in
    let u = s.numbering in
    let l = s.layout in
    let is = c.self.invariant (rw (← c.self.view_is) at c.requires.usable) in
    let some = rw (← c.self.view_is) at c.requires.some in
    let no_conjunct = rw (← c.self.view_is) at c.requires.conjuncts in
    let no_word = rw (← c.self.view_is) at c.requires.words in
    let no_symbol = rw (← c.self.view_is) at c.requires.word in
    let a = c.in_ok-lists.ensures in
    let q = c.in_ok-lists.lists in
    let rules = rules_in q.symbols.now q.words.now q.conjuncts.now q.rules.now in
    let terms = c.in_ok-terms.ensures ∙ whole_terms labels l u rules is a.rules_are no_conjunct no_word no_symbol in
    let numbers = a.numbers_are ∙ whole_numbers labels l u rules is a.rules_are no_conjunct in
    record {
      symbols_are = a.kept.symbols_are;
      words_are = a.kept.words_are;
      words_lie = a.kept.words_lie;
      conjuncts_cover = a.words_cover;
      rules_cover = a.conjuncts_cover;
      conjuncts_lie = covers-lie 0 (map (λ d. d.words) q.conjuncts.now) (length q.words.now) a.words_cover;
      rules_lie = covers-lie 0 (map (λ r. r.conjuncts) q.rules.now) (length q.conjuncts.now) a.conjuncts_cover;
      heads_are = a.heads;
      rules_are = whole_rules labels l u rules is a.rules_are some;
      class_is = (rw (← c.self.view_is) at c.requires.class) ∙ ap has_class (sym a.rules_are);
      wide_is = (rw (← c.self.view_is) at c.requires.wide) ∙ ap has_class (sym a.rules_are);
      terms_are = terms;
      numbers_are = numbers;
      terms_lie = (λ i. list_all (λ n. nat_lt n (length (terms i))) (numbers i)) ∙ whole_inside labels l u rules is a.rules_are;
    }

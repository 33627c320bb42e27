use Rattle.std.proofs.Common.{◌≡◌, ◌∙◌, true, List, length, fold, is_some, ap, sym, subst}
use Rattle.std.specs.List.{list_all}
use Rattle.gm_text.specs.declared.lists.Span.{Span}
use Rattle.query_terms.specs.Lists.{words_in, conjunct_in}
use Rattle.query_terms.specs.Spans.{cut, lies}
use Rattle.query_terms.specs.Underway.{with_end}
use Rattle.query_terms.specs.Outline.{after_word, after_conjunct}
use Rattle.query_terms.proofs.SpanLemmas.{passes_cut, cut-map}
use Rattle.query_terms.proofs.OutlineLemmas.{part_words, union_known, word_ended, conjunct_is, conjuncts_more}
use Rattle.query_terms.proofs.outline.number_terms.Goals as goal

pub number_words-requires-clause-lie : goal.number_words-requires-clause-lie
number_words-requires-clause-lie c =
    let n = length c.args.symbols.now in
    subst (λ (part : List Span). list_all (lies n) part ≡ true) (sym c.part_of-part.ensures) (passes_cut (lies n) c.args.words.now c.conjunct-item.result.words c.requires.lie)

pub number_words-requires-clause-words : goal.number_words-requires-clause-words
number_words-requires-clause-words c =
    let n = length c.args.labels.now in
    let item = c.conjunct-item.result in
    let is = conjunct_is c.args.symbols.now c.args.words.now c.args.conjuncts.now c.loop-conjunct.conjunct-index item c.loop-conjunct-test.true c.conjunct-item.is n c.requires.conjuncts in
    (part_words n c.args.symbols.now c.args.words.now c.part_of-part.result.now item c.part_of-part.ensures is).0

pub end_conjunct-requires-clause-begun : goal.end_conjunct-requires-clause-begun
end_conjunct-requires-clause-begun c =
    let n = length c.args.labels.now in
    let item = c.conjunct-item.result in
    let is = conjunct_is c.args.symbols.now c.args.words.now c.args.conjuncts.now c.loop-conjunct.conjunct-index item c.loop-conjunct-test.true c.conjunct-item.is n c.requires.conjuncts in
    let some = (part_words n c.args.symbols.now c.args.words.now c.part_of-part.result.now item c.part_of-part.ensures is).1 in
    ap (λ u. is_some u.union) c.in_ok-number_words.ensures ∙ union_known c.args.labels.now c.loop-conjunct.numbering (words_in c.args.symbols.now c.part_of-part.result.now) some

pub end_conjunct-requires-clause-word : goal.end_conjunct-requires-clause-word
end_conjunct-requires-clause-word c =
    let n = length c.args.labels.now in
    let item = c.conjunct-item.result in
    let is = conjunct_is c.args.symbols.now c.args.words.now c.args.conjuncts.now c.loop-conjunct.conjunct-index item c.loop-conjunct-test.true c.conjunct-item.is n c.requires.conjuncts in
    let some = (part_words n c.args.symbols.now c.args.words.now c.part_of-part.result.now item c.part_of-part.ensures is).1 in
    ap (λ u. u.word) c.in_ok-number_words.ensures ∙ word_ended c.args.labels.now c.loop-conjunct.numbering (words_in c.args.symbols.now c.part_of-part.result.now) some

pub loop-conjunct-preserved : goal.loop-conjunct-preserved
loop-conjunct-preserved c =
    let labels = c.args.labels.now in
    let value = conjunct_in (words_in c.args.symbols.now c.args.words.now) in
    let item = c.conjunct-item.result in
    let words : words_in c.args.symbols.now c.part_of-part.result.now ≡ (value item).words =
    ap (words_in c.args.symbols.now) c.part_of-part.ensures ∙ sym (cut-map (cut c.args.symbols.now) c.args.words.now item.words) in
    c.in_ok-end_conjunct.ensures.goes_on
    ∙ ap (with_end item.star) (c.in_ok-number_words.ensures ∙ ap (fold (after_word labels) c.loop-conjunct.numbering) words)
    ∙ ap (λ u. after_conjunct labels u (value item)) c.loop-conjunct.invariant
    ∙ conjuncts_more c.args.symbols.now c.args.words.now c.args.conjuncts.now c.loop-conjunct.conjunct-index item c.loop-conjunct-test.true c.conjunct-item.is labels

use Rattle.std.proofs.Common.{◌≡◌, ◌∙◌, ◌<◌, true, List, length, is_some, ap, sym, subst}
use Rattle.std.proofs.lemmas.Bool.{and_parts, ltb-true}
use Rattle.std.specs.List.{list_all}
use Rattle.sel_algebra.specs.declared.vocabulary.Symbol.{Symbol}
use Rattle.query_terms.specs.Values.{has_edge, is_word}
use Rattle.query_terms.specs.Spans.{cut}
use Rattle.query_terms.proofs.SpanLemmas.{passes_mapped}
use Rattle.query_terms.proofs.OutlineLemmas.{word_known}
use Rattle.query_terms.proofs.outline.number_words.Goals as goal

pub number_steps-requires : goal.number_steps-requires
number_steps-requires c =
    let n = length c.args.labels.now in
    let word = passes_mapped (is_word n) (cut c.args.symbols.now) c.args.words.now c.loop-word.word-index _ c.requires.words c.loop-word-test.true in
    subst (λ (w : List Symbol). list_all (has_edge n) w ≡ true) (sym c.part_of.ensures) (and_parts _ _ word).1

pub end_word-requires : goal.end_word-requires
end_word-requires c =
    let n = length c.args.labels.now in
    let word = passes_mapped (is_word n) (cut c.args.symbols.now) c.args.words.now c.loop-word.word-index _ c.requires.words c.loop-word-test.true in
    let some = subst (λ (w : List Symbol). 0 < length w) (sym c.part_of.ensures) (ltb-true 0 _ (and_parts _ _ word).0) in
    record { begun = ap (λ u. is_some u.word) c.in_ok-number_steps.ensures ∙ word_known c.args.labels.now c.loop-word.numbering c.part_of.result.now some }

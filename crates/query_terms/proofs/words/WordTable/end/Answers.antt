use Rattle.std.proofs.Common.{◌≡◌, ◌++◌, ◌∷◌, [], ◌+◌, List, length, map, drop, false, Vec, refl, subst, sym, ap, ◌∙◌}
use Rattle.std.proofs.lemmas.List.{map-append}
use Rattle.gm_text.specs.declared.lists.Span.{Span}
use Rattle.sel_algebra.specs.declared.vocabulary.Symbol.{Symbol}
use Rattle.indexmap.proofs.CallerLemmas.{insert_entry-new}
use Rattle.query_terms.specs.Spans.{distinct, span_in}
use Rattle.std.specs.Cmp.Lexicographic.{pointwise}
use Rattle.sel_algebra.specs.contracts.vocabulary.SymbolPartialEq.TheImpl.{eq-value}
use Rattle.query_terms.specs.Layout.{AreKept}
use Rattle.query_terms.specs.Lists.{words_in}
use Rattle.query_terms.proofs.WordLemmas.{is_in, found_there, found_none, kept_again, value_again, kept_new}
use Rattle.query_terms.proofs.words.WordTable.end.Goals as goal

pub invariant_of-self-in-Some : goal.invariant_of-self-in-Some
invariant_of-self-in-Some c =
    let s = c.self.inside in
    let kept = distinct (words_in s.symbols.items s.spans.items) in
    let k : c.in_ok-kept.kept.items ≡ drop s.ended s.symbols.items = c.in_ok-kept.ensures ∙ (c.items_from-word.ensures ∙ ap (drop s.ended) c.as_slice.ensures.value) in
    let f = found_there kept c.in_ok-kept.kept.items s.index.entries (λ k. k.items) c.in-Some.earlier c.self.invariant.index_is (sym c.in-Some.is ∙ c.in_ok-earlier.ensures.found) in
    let same = rw c.in-Some.is at c.in_ok-earlier.ensures.kept in
    rw (c.truncate.ensures.items, c.in_ok-push.ensures.items, c.in_ok-reserve.ensures.items, same)
    (kept_again s.symbols.items s.spans.items _ s.ended s.taken c.self.invariant c.in-Some.earlier
    (ap (is_in kept) (sym k) ∙ f.0) (f.1 ∙ ap (span_in kept) k) (rw (← c.self.view_is) at c.requires.some))

pub returns-in-Some-clause-goes_on : goal.returns-in-Some-clause-goes_on
returns-in-Some-clause-goes_on c =
    let s = c.self.inside in
    let kept = distinct (words_in s.symbols.items s.spans.items) in
    let k : c.in_ok-kept.kept.items ≡ drop s.ended s.symbols.items = c.in_ok-kept.ensures ∙ (c.items_from-word.ensures ∙ ap (drop s.ended) c.as_slice.ensures.value) in
    let f = found_there kept c.in_ok-kept.kept.items s.index.entries (λ k. k.items) c.in-Some.earlier c.self.invariant.index_is (sym c.in-Some.is ∙ c.in_ok-earlier.ensures.found) in
    rw (← c.self.view_is, c.truncate.ensures.items, c.in_ok-push.ensures.items, c.in_ok-reserve.ensures.items)
    (value_again s.symbols.items s.spans.items _ s.ended s.taken c.self.invariant c.in-Some.earlier (ap (is_in kept) (sym k) ∙ f.0) (f.1 ∙ ap (span_in kept) k))

pub invariant_of-self-2 : goal.invariant_of-self-2
invariant_of-self-2 c =
    let s = c.self.inside in
    let kept = distinct (words_in s.symbols.items s.spans.items) in
    let word = drop s.ended s.symbols.items in
    let seen : Vec Symbol _ × Span → List Symbol × Span = λ e. (e.0.items, e.1) in
    let w : c.items_from-word.result.now ≡ word = c.items_from-word.ensures ∙ ap (drop s.ended) c.as_slice.ensures.value in
    let k : c.in_ok-kept.kept.items ≡ word = c.in_ok-kept.ensures ∙ w in
    let none = sym c.in_default.is ∙ c.in_ok-earlier.ensures.found in
    let new : is_in kept word ≡ false = ap (is_in kept) (sym k) ∙ found_none kept c.in_ok-kept.kept.items s.index.entries (λ k. k.items) c.self.invariant.index_is none in
    let span : Span = record { first = s.ended; count = length c.items_from-word.result.now } in
    let inserted = (rw c.in_default.is at c.in_ok-earlier.ensures.put) ∙ insert_entry-new (λ a b. pointwise eq-value.it a.items b.items) s.index c.in_ok-kept.kept span (sym none) in
    let pushed = c.in-Ok.ensures.items ∙ ap (λ l. l ++ span ∷ []) c.in_ok-reserve.ensures.items in
    let noted = ap (map seen) inserted ∙ (map-append seen s.index.entries ((c.in_ok-kept.kept, span) ∷ []) ∙ (λ i. map seen s.index.entries ++ (k i, span) ∷ [])) in
    subst (λ l. AreKept s.symbols.items l (map seen c.find_or_put.new.map.entries) (s.ended + span.count) s.taken) (sym pushed)
    (subst (λ l. AreKept s.symbols.items (s.spans.items ++ span ∷ []) l (s.ended + span.count) s.taken) (sym noted)
    (kept_new s.symbols.items s.spans.items _ s.ended s.taken c.self.invariant span new refl (ap length w) (rw (← c.self.view_is) at c.requires.some)))

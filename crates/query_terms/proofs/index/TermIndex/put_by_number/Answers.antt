use Rattle.std.proofs.Common.{sym, subst, ◌∙◌, ◌++◌, ◌∷◌, []}
use Rattle.indexmap.proofs.CallerLemmas.{insert_entry-new}
use Rattle.query_terms.specs.contracts.terms.TermPartialEq.TheImpl.{eq-value}
use Rattle.query_terms.specs.Index.{IsIndexed}
use Rattle.query_terms.proofs.StoreLemmas.{put_is_new, put_found, last_there, numbered_push}
use Rattle.query_terms.proofs.IndexLemmas.{lookup_same, unknown_is_new, indexed_push}
use Rattle.query_terms.proofs.index.TermIndex.put_by_number.Goals as goal

pub returns-in-Some-clause-put : goal.returns-in-Some-clause-put
returns-in-Some-clause-put c =
    rw (← c.self.view_is, c.of.ensures)
    (put_found c.self.inside.terms.items c.args.term c.in-Some.next c.self.invariant.numbered.store (rw c.as_slice-2.ensures.value at c.in-Some.ensures.there))

pub returns-in-Some-2-clause-put : goal.returns-in-Some-2-clause-put
returns-in-Some-2-clause-put c =
    let known = sym (lookup_same c.self.inside.numbers.entries c.args.term) ∙ (sym c.in_ok-number.ensures.found ∙ c.in-Some-2.is) in
    rw (← c.self.view_is, c.of-in-Some-2.ensures, c.in_ok-reserve.ensures.items)
    (put_found c.self.inside.terms.items c.args.term c.in-Some-2.number c.self.invariant.numbered.store (c.self.invariant.right c.args.term c.in-Some-2.number known))

pub returns-in-Some-2-clause-inside : goal.returns-in-Some-2-clause-inside
returns-in-Some-2-clause-inside c =
    let known = sym (lookup_same c.self.inside.numbers.entries c.args.term) ∙ (sym c.in_ok-number.ensures.found ∙ c.in-Some-2.is) in
    rw (c.of-in-Some-2.ensures, c.in_ok-reserve.ensures.items) (c.self.invariant.right c.args.term c.in-Some-2.number known)

pub invariant_of-self-2 : goal.invariant_of-self-2
invariant_of-self-2 c =
    let terms = c.self.inside.terms.items in
    let entries = c.self.inside.numbers.entries in
    let none = sym (lookup_same entries c.args.term) ∙ (sym c.in_ok-number.ensures.found ∙ c.in_default-2.is) in
    let absent = unknown_is_new terms entries c.args.term c.self.invariant (rw c.as_slice-2.ensures.value at c.in_default.ensures.absent) none in
    let inserted = (rw c.in_default-2.is at c.in_ok-number.ensures.put)
    ∙ rw c.as_slice.ensures.value (insert_entry-new eq-value.it c.self.inside.numbers c.args.term _ (lookup_same entries c.args.term ∙ none)) in
    rw (c.in-Ok.ensures.items, c.in_ok-reserve.ensures.items)
    (subst (IsIndexed (terms ++ c.args.term ∷ [])) (sym inserted)
    (indexed_push terms entries c.args.term c.self.invariant (rw (← c.self.view_is) at c.requires.children) (rw (← c.self.view_is) at c.requires.room) absent none))

pub returns-clause-put : goal.returns-clause-put
returns-clause-put c =
    let none = sym (lookup_same c.self.inside.numbers.entries c.args.term) ∙ (sym c.in_ok-number.ensures.found ∙ c.in_default-2.is) in
    rw (← c.self.view_is, c.of-in-Ok.ensures, c.as_slice.ensures.value, c.in-Ok.ensures.items, c.in_ok-reserve.ensures.items)
    (put_is_new c.self.inside.terms.items c.args.term
    (unknown_is_new c.self.inside.terms.items c.self.inside.numbers.entries c.args.term c.self.invariant (rw c.as_slice-2.ensures.value at c.in_default.ensures.absent) none))

pub returns-clause-inside : goal.returns-clause-inside
returns-clause-inside c =
    rw (c.of-in-Ok.ensures, c.as_slice.ensures.value, c.in-Ok.ensures.items, c.in_ok-reserve.ensures.items)
    (last_there c.self.inside.terms.items c.args.term)

pub returns-clause-numbered : goal.returns-clause-numbered
returns-clause-numbered c =
    let none = sym (lookup_same c.self.inside.numbers.entries c.args.term) ∙ (sym c.in_ok-number.ensures.found ∙ c.in_default-2.is) in
    rw (c.in-Ok.ensures.items, c.in_ok-reserve.ensures.items)
    (numbered_push c.self.inside.terms.items c.args.term c.self.invariant.numbered (rw (← c.self.view_is) at c.requires.children) (rw (← c.self.view_is) at c.requires.room)
    (unknown_is_new c.self.inside.terms.items c.self.inside.numbers.entries c.args.term c.self.invariant (rw c.as_slice-2.ensures.value at c.in_default.ensures.absent) none))

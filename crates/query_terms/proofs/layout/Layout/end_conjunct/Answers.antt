use Rattle.std.proofs.Common.{◌-◌, ◌≤◌, length, refl, subst}
use Rattle.query_terms.specs.declared.terms.Conjunct.{Conjunct}
use Rattle.query_terms.specs.Building.{symbols_most}
use Rattle.query_terms.proofs.LayoutLemmas.{laid_conjunct, value_conjunct}
use Rattle.query_terms.proofs.layout.Layout.end_conjunct.Goals as goal

pub invariant_of-self-2 : goal.invariant_of-self-2
invariant_of-self-2 c =
    let s = c.self.inside in
    let a = c.args in
    let one : Conjunct = record { src = a.src; trg = a.trg; star = a.star; words = record { first = s.first_word; count = length s.words.ended - s.first_word }; term = a.term } in
    rw (c.in_ok-push.ensures.items, c.count-count.ensures.count)
    (laid_conjunct s.words s.conjuncts.items s.rules.items s.first_word s.first_conjunct c.self.invariant one refl refl
    (rw (← c.self.view_is) at c.requires.some) (subst (λ n. n ≤ symbols_most) c.count-count.ensures.count c.count-count.ensures.few))

pub returns : goal.returns
returns c =
    let s = c.self.inside in
    let a = c.args in
    let one : Conjunct = record { src = a.src; trg = a.trg; star = a.star; words = record { first = s.first_word; count = length s.words.ended - s.first_word }; term = a.term } in
    rw (← c.self.view_is, c.in_ok-push.ensures.items, c.count-count.ensures.count)
    (value_conjunct s.words s.conjuncts.items s.rules.items s.first_word s.first_conjunct c.self.invariant one refl refl)

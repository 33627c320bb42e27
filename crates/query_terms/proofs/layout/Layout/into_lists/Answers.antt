use Rattle.query_terms.proofs.LayoutLemmas.{whole_lists}
use Rattle.query_terms.proofs.layout.Layout.into_lists.Goals as goal

pub returns : goal.returns
returns c =
    let s = c.self.inside in
    rw (← c.self.view_is, c.into_bump_slice.ensures, c.into_bump_slice-2.ensures)
    (whole_lists s.words s.conjuncts.items s.rules.items s.first_word s.first_conjunct c.self.invariant _ _
    c.in_ok-symbols.ensures.kept c.in_ok-symbols.ensures.words (rw (← c.self.view_is) at c.requires.conjuncts) (rw (← c.self.view_is) at c.requires.words))

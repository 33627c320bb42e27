use Rattle.query_terms.proofs.LayoutLemmas.{value_word}
use Rattle.query_terms.proofs.layout.Layout.end_word.Goals as goal

pub returns : goal.returns
returns c =
    let s = c.self.inside in
    rw (← c.self.view_is, c.in_ok-end.ensures.goes_on)
    (value_word s.words s.conjuncts.items s.rules.items s.first_word s.first_conjunct c.self.invariant s.words.begun)

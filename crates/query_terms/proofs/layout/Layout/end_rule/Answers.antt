use Rattle.std.proofs.Common.{◌-◌, length, refl}
use Rattle.query_terms.proofs.LayoutLemmas.{laid_rule}
use Rattle.query_terms.proofs.layout.Layout.end_rule.Goals as goal

pub invariant_of-self-2 : goal.invariant_of-self-2
invariant_of-self-2 c =
    let s = c.self.inside in
    rw (c.in_ok-push.ensures.items, c.as_slice.ensures.value)
    (laid_rule s.words s.conjuncts.items s.rules.items s.first_word s.first_conjunct c.self.invariant
    (record { heads = c.args.heads; conjuncts = record { first = s.first_conjunct; count = length s.conjuncts.items - s.first_conjunct } }) refl refl c.requires.heads)

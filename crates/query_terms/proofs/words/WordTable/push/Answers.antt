use Rattle.query_terms.proofs.WordLemmas.{kept_symbol, value_symbol}
use Rattle.query_terms.proofs.words.WordTable.push.Goals as goal

pub invariant_of-self-2 : goal.invariant_of-self-2
invariant_of-self-2 c =
    rw c.in_ok-push.ensures.items
    (kept_symbol c.self.inside.symbols.items c.self.inside.spans.items _ c.self.inside.ended c.self.inside.taken c.args.symbol c.self.invariant (rw (← c.self.view_is) at c.requires.few))

pub returns-clause-goes_on : goal.returns-clause-goes_on
returns-clause-goes_on c =
    rw (← c.self.view_is, c.in_ok-push.ensures.items)
    (value_symbol c.self.inside.symbols.items c.self.inside.spans.items _ c.self.inside.ended c.self.inside.taken c.args.symbol c.self.invariant)

use Rattle.std.proofs.Common.{sym}
use Rattle.query_terms.proofs.StoreLemmas.{put_is_new, last_there, numbered_push}
use Rattle.query_terms.proofs.IndexLemmas.{next_is_new, indexed_next}
use Rattle.query_terms.proofs.index.TermIndex.put.Goals as goal

pub invariant_of-self-then-follows : goal.invariant_of-self-then-follows
invariant_of-self-then-follows c =
    rw c.in_ok-push.ensures.items
    (indexed_next c.self.inside.terms.items c.self.inside.numbers.entries c.args.term c.self.invariant (rw (← c.self.view_is) at c.requires.children) (rw (← c.self.view_is) at c.requires.room)
    (sym (rw c.as_slice.ensures.value at c.if-follows.ensures)))

pub returns-then-follows-clause-put : goal.returns-then-follows-clause-put
returns-then-follows-clause-put c =
    rw (← c.self.view_is, c.of.ensures, c.as_slice.ensures.value, c.in_ok-push.ensures.items)
    (put_is_new c.self.inside.terms.items c.args.term
    (next_is_new c.self.inside.terms.items c.args.term c.self.invariant.numbered.store (sym (rw c.as_slice.ensures.value at c.if-follows.ensures))))

pub returns-then-follows-clause-inside : goal.returns-then-follows-clause-inside
returns-then-follows-clause-inside c = rw (c.of.ensures, c.as_slice.ensures.value, c.in_ok-push.ensures.items) (last_there c.self.inside.terms.items c.args.term)

pub returns-then-follows-clause-numbered : goal.returns-then-follows-clause-numbered
returns-then-follows-clause-numbered c =
    rw c.in_ok-push.ensures.items
    (numbered_push c.self.inside.terms.items c.args.term c.self.invariant.numbered (rw (← c.self.view_is) at c.requires.children) (rw (← c.self.view_is) at c.requires.room)
    (next_is_new c.self.inside.terms.items c.args.term c.self.invariant.numbered.store (sym (rw c.as_slice.ensures.value at c.if-follows.ensures))))

use Rattle.std.proofs.Common.{arith}
use Rattle.query_terms.proofs.ListedLemmas.{length_decoded, tell_more, push_low, push_other, tell_other}
use Rattle.query_terms.proofs.listed.Listing.push.Goals as goal

pub overflow_cast-count : goal.overflow_cast-count
overflow_cast-count c =
    let s = c.self.inside in
    rw c.as_slice.ensures.value (omega (arith, (rw (← c.self.view_is, length_decoded s.others.items 0 s.codes.items) at c.requires.room)))

pub returns-in-Some : goal.returns-in-Some
returns-in-Some c = λ _.
    rw (← c.self.view_is, c.in_ok-push.ensures.items)
    (push_low c.self.inside.others.items c.self.inside.codes.items c.args.term c.in-Some.code c.in-Some.ensures.low (rw c.as_slice.ensures.value at c.in-Some.ensures.same))

pub invariant_of-self-in_err-push-3 : goal.invariant_of-self-in_err-push-3
invariant_of-self-in_err-push-3 c =
    rw (c.in_err-push-3.ensures.items, c.in_ok-push-2.ensures.items)
    (tell_more c.self.inside.others.items c.self.inside.codes.items c.args.term c.self.invariant)

pub invariant_of-self-2 : goal.invariant_of-self-2
invariant_of-self-2 c =
    rw (c.in_ok-push-3.ensures.items, c.in_ok-push-2.ensures.items, c.as_slice-place.ensures.value)
    (tell_other c.self.inside.others.items c.self.inside.codes.items c.args.term c.self.invariant)

pub returns : goal.returns
returns c = λ _.
    rw (← c.self.view_is, c.in_ok-push-3.ensures.items, c.in_ok-push-2.ensures.items, c.as_slice-place.ensures.value)
    (push_other c.self.inside.others.items c.self.inside.codes.items c.args.term c.self.invariant)

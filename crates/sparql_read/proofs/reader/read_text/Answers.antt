use Rattle.std.proofs.Common.{sym, ◌∙◌}
use Rattle.sparql_read.proofs.ReaderLemmas.{no_reading_body, no_reading_holds, reading_is, holds_same}
use Rattle.sparql_read.proofs.reader.read_text.Goals as goal

pub returns-in_default-2 : goal.returns-in_default-2
returns-in_default-2 c = record { is = no_reading_body _ _ _ c.in-Some.ensures.is (rw c.in_default-2.is at c.in_ok-parts.ensures.is) }

pub returns-then-not-holds : goal.returns-then-not-holds
returns-then-not-holds c =
    let b = rw c.in-Some-2.is at c.in_ok-parts.ensures.is in
    let e = rw c.deref.ensures.value at c.if-not-holds.ensures.is in
    record { is = no_reading_holds _ _ _ _ c.in-Some.ensures.is b (sym (e ∙ holds_same _ _ _ b)) }

pub returns : goal.returns
returns c =
    let b = rw c.in-Some-2.is at c.in_ok-parts.ensures.is in
    let e = rw c.deref.ensures.value at c.if-not-holds.ensures.is in
    record { is = reading_is _ _ _ _ c.in-Some.ensures.is b (sym (e ∙ holds_same _ _ _ b)) }

use Rattle.std.proofs.Common.{length, refl, arith}
use Rattle.sparql_emit.specs.Laws.{has_label}
use Rattle.sparql_emit.proofs.TodoLemmas.{parts_below, list_all-get, item_written, byte_written, term_written, item_lighter, term_lighter, after_lighter}
use Rattle.sparql_emit.proofs.paths.path_text.Goals as goal

pub loop-next-smaller-in-Continue-branch-2 : goal.loop-next-smaller-in-Continue-branch-2
loop-next-smaller-in-Continue-branch-2 c =
    let pop = rw c.in-Byte.is at c.in-Some.ensures.items in
    item_lighter _ c.len.ensures.store _ _ _ pop (omega arith)

pub loop-next-preserved-in-Continue-branch-2 : goal.loop-next-preserved-in-Continue-branch-2
loop-next-preserved-in-Continue-branch-2 c =
    let pop = rw c.in-Byte.is at c.in-Some.ensures.items in
    item_written _ _ c.len.ensures.store _ _ _ _ _ _ _ c.loop-next.invariant pop c.in_ok-push-in-Byte.ensures.items refl

pub write_term-requires-clause-children : goal.write_term-requires-clause-children
write_term-requires-clause-children c = parts_below _ _ _ c.len.ensures.store c.get.ensures

pub write_term-requires-clause-label : goal.write_term-requires-clause-label
write_term-requires-clause-label c = list_all-get (has_label (length c.args.labels.now)) c.args.terms.now _ _ c.requires.labels c.get.ensures

pub loop-next-smaller-in-Continue-branch-3 : goal.loop-next-smaller-in-Continue-branch-3
loop-next-smaller-in-Continue-branch-3 c =
    let pop = rw c.in-Path.is at c.in-Some.ensures.items in
    term_lighter _ c.len.ensures.store _ _ _ _ _ pop c.get.ensures c.in_ok-write_term-in-Path.ensures.parts

pub loop-next-preserved-in-Continue-branch-3 : goal.loop-next-preserved-in-Continue-branch-3
loop-next-preserved-in-Continue-branch-3 c =
    let pop = rw c.in-Path.is at c.in-Some.ensures.items in
    term_written _ _ c.len.ensures.store _ _ _ _ _ _ _ _ _ c.loop-next.invariant pop c.get.ensures c.in_ok-write_term-in-Path.ensures.text
    c.in_ok-write_term-in-Path.ensures.name c.in_ok-write_term-in-Path.ensures.parts

pub write_term-requires-in-After-clause-children : goal.write_term-requires-in-After-clause-children
write_term-requires-in-After-clause-children c = parts_below _ _ _ c.len.ensures.store c.get-in-After.ensures

pub write_term-requires-in-After-clause-label : goal.write_term-requires-in-After-clause-label
write_term-requires-in-After-clause-label c = list_all-get (has_label (length c.args.labels.now)) c.args.terms.now _ _ c.requires.labels c.get-in-After.ensures

pub loop-next-smaller : goal.loop-next-smaller
loop-next-smaller c =
    let pop = rw c.in-After.is at c.in-Some.ensures.items in
    after_lighter _ c.len.ensures.store _ _ _ _ _ _ pop c.get-in-After.ensures c.in_ok-write_term-in-After.ensures.parts

pub loop-next-preserved : goal.loop-next-preserved
loop-next-preserved c =
    let pop = rw c.in-After.is at c.in-Some.ensures.items in
    let begun = byte_written _ _ c.len.ensures.store _ _ _ _ _ _ _ _ c.loop-next.invariant pop c.in_ok-push-in-After.ensures.items in
    term_written _ _ c.len.ensures.store _ _ _ _ _ _ _ _ _ begun refl c.get-in-After.ensures c.in_ok-write_term-in-After.ensures.text
    c.in_ok-write_term-in-After.ensures.name c.in_ok-write_term-in-After.ensures.parts

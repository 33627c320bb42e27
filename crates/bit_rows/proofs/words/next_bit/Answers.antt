use Rattle.std.proofs.Common.{arith, ◌/◌}
use Rattle.bit_rows.proofs.WordLemmas.{next_in_row, none_in_row, next_in_later, none_in_later, none_at_all}
use Rattle.bit_rows.proofs.words.next_bit.Goals as goal

pub returns-in-Some : goal.returns-in-Some
returns-in-Some c = next_in_row c.args.words.now c.args.n c.in-Some.place (c.type_inv.words (c.args.n / 32)).fits c.in-Some.ensures

pub loop-i-init : goal.loop-i-init
loop-i-init c = none_in_row c.args.words.now c.args.n c.in_default.ensures

pub returns-in-Some-lowest_one : goal.returns-in-Some-lowest_one
returns-in-Some-lowest_one c = next_in_later c.args.words.now c.args.n c.loop-i.i c.in-Some-lowest_one.place (omega arith) c.loop-i.invariant c.in-Some-lowest_one.ensures

pub loop-i-preserved : goal.loop-i-preserved
loop-i-preserved c = none_in_later c.args.words.now c.args.n c.loop-i.i c.in_default-lowest_one.ensures c.loop-i.invariant

pub returns : goal.returns
returns c = none_at_all c.args.words.now c.args.n c.loop-i.i c.loop-i-test.false c.loop-i.invariant

use Rattle.std.proofs.Common.{◌*◌}
use Rattle.bit_rows.specs.Words.{NoBits}
use Rattle.bit_rows.proofs.words.next_bit.Given as goal

abbrev pub invariant-loop-i : goal.invariant-loop-i
invariant-loop-i l = NoBits l.words l.n (32 * l.i)

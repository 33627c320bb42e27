use Rattle.bit_rows.proofs.WordLemmas.{AreJoined}
use Rattle.bit_rows.proofs.words.or_words.Given as goal

abbrev pub invariant-loop-i : goal.invariant-loop-i
invariant-loop-i l = AreJoined l.initial.words l.others l.words l.i

use Rattle.std.proofs.Common.{arith}
use Rattle.bit_rows.proofs.WordLemmas.{AreJoined-none, AreJoined-more, AreJoined-all}
use Rattle.bit_rows.proofs.words.or_words.Goals as goal

pub loop-i-init : goal.loop-i-init
loop-i-init c = AreJoined-none c.args.words.now c.args.others.now

pub loop-i-preserved : goal.loop-i-preserved
loop-i-preserved c = AreJoined-more c.args.words.now c.args.others.now c.loop-i.words c.loop-i.i (omega arith) c.loop-i.invariant

pub returns : goal.returns
returns c = AreJoined-all c.args.words.now c.args.others.now c.loop-i.words c.loop-i.i c.requires c.loop-i-test.false c.loop-i.invariant

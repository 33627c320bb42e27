use Rattle.std.proofs.Common.{◌∙◌}
use Rattle.workload_text.proofs.JoinedLemmas.{union_word-fits, next_fits}
use Rattle.workload_text.proofs.parts.is_union_word.Goals as goal

pub loop-byte-init : goal.loop-byte-init
loop-byte-init c = union_word-fits c.args.word.now

pub loop-byte-preserved : goal.loop-byte-preserved
loop-byte-preserved c =
    rw c.fits-fit.ensures
    (c.loop-byte.invariant ∙ next_fits c.loop-byte.fit c.loop-byte.second c.loop-byte.before c.args.word.now c.loop-byte.byte-index c.loop-byte-test.true)

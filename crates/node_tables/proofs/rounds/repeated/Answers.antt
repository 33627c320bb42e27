use Rattle.std.proofs.Common.{◌∙◌}
use Rattle.node_tables.proofs.TableLemmas.{rounds_begin, rounds_more}
use Rattle.node_tables.proofs.rounds.repeated.Goals as goal

pub loop-round-init : goal.loop-round-init
loop-round-init c = rounds_begin _ _ _ c.in_ok-pairs.ensures

pub loop-round-preserved : goal.loop-round-preserved
loop-round-preserved c =
    rounds_more _ _ _ _ _ (c.as_slice-before.ensures.items ∙ c.loop-round.invariant) c.in_ok-pairs-2.ensures

use Rattle.std.proofs.Common.{sym, ◌∙◌}
use Rattle.rpq_meaning.proofs.JoinLemmas.{assigned-here, assigned-after, assigned-past}
use Rattle.rpq_meaning.proofs.mappings.assigned.Goals as goal

pub returns-then-entry-v : goal.returns-then-entry-v
returns-then-entry-v c = sym (assigned-here _ _ _ _ c.loop-entry-test.true c.if-entry-v.true) ∙ c.loop-entry.invariant

pub loop-entry-preserved : goal.loop-entry-preserved
loop-entry-preserved c = sym (assigned-after _ _ _ _ c.loop-entry-test.true c.if-entry-v.false) ∙ c.loop-entry.invariant

pub returns : goal.returns
returns c = sym (assigned-past _ _ _ c.loop-entry-test.false) ∙ c.loop-entry.invariant

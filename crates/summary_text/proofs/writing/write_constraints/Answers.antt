use Rattle.graph_text.proofs.PartLemmas.{OnErr-from}
use Rattle.summary_text.proofs.TextLemmas.{constraint_lines-more, constraint_lines-stopped}
use Rattle.summary_text.proofs.writing.write_constraints.Goals as goal

pub loop-c-preserved : goal.loop-c-preserved
loop-c-preserved c =
    constraint_lines-more c.args.counts.now c.loop-c.c 0 c.loop-c-test.true _ _ _ c.loop-c.invariant c.in_ok-write_constraint.ensures.ok

pub returns-in_err-write_constraint-clause-err : goal.returns-in_err-write_constraint-clause-err
returns-in_err-write_constraint-clause-err c =
    OnErr-from c.from_residual.result
    (constraint_lines-stopped c.args.counts.now c.loop-c.c 0 c.loop-c-test.true _ _ _ c.loop-c.invariant c.in_err-write_constraint.ensures.err)

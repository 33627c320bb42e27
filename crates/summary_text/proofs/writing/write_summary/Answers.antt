use Rattle.std.proofs.lemmas.Result.{on_ok_weaker, on_err_weaker}
use Rattle.graph_text.proofs.PartLemmas.{OnErr-from, AppendsPart-more, AppendsPart-after}
use Rattle.summary_text.proofs.TextLemmas.{appended-four}
use Rattle.summary_text.proofs.writing.write_summary.Goals as goal

pub returns-in_err-write_constraints-clause-err : goal.returns-in_err-write_constraints-clause-err
returns-in_err-write_constraints-clause-err c =
    OnErr-from c.from_residual.result
    (AppendsPart-more _ _ _ _ (rw c.edges.ensures at c.in_err-write_constraints.ensures.err))

pub returns-in_err-write_class-clause-err : goal.returns-in_err-write_class-clause-err
returns-in_err-write_class-clause-err c =
    OnErr-from c.from_residual-in_err-write_class.result
    (AppendsPart-after _ _ _ _ _ (rw c.edges.ensures at c.in_ok-write_constraints.ensures.ok)
    (AppendsPart-more _ _ _ _ c.in_err-write_class.ensures.err))

pub returns-in_err-write_class-2-clause-err : goal.returns-in_err-write_class-2-clause-err
returns-in_err-write_class-2-clause-err c =
    OnErr-from c.from_residual-in_err-write_class-2.result
    (AppendsPart-after _ _ _ _ _ (rw c.edges.ensures at c.in_ok-write_constraints.ensures.ok)
    (AppendsPart-after _ _ _ _ _ c.in_ok-write_class.ensures.ok
    (AppendsPart-more _ _ _ _ c.in_err-write_class-2.ensures.err)))

pub returns-clause-ok : goal.returns-clause-ok
returns-clause-ok c =
    on_ok_weaker c.write_class-3.result
    (appended-four _ _ _ _ _ _ _ _ _ (rw c.edges.ensures at c.in_ok-write_constraints.ensures.ok) c.in_ok-write_class.ensures.ok c.in_ok-write_class-2.ensures.ok)
    c.write_class-3.ensures.ok

pub returns-clause-err : goal.returns-clause-err
returns-clause-err c =
    on_err_weaker c.write_class-3.result
    (λ part. AppendsPart-after _ _ _ _ _ (rw c.edges.ensures at c.in_ok-write_constraints.ensures.ok)
    (AppendsPart-after _ _ _ _ _ c.in_ok-write_class.ensures.ok
    (AppendsPart-after _ _ _ _ _ c.in_ok-write_class-2.ensures.ok part)))
    c.write_class-3.ensures.err

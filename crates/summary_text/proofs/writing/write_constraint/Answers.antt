use Rattle.std.proofs.Common.{codes, ◌∙◌}
use Rattle.std.proofs.lemmas.Result.{on_err_weaker}
use Rattle.graph_text.proofs.PartLemmas.{OnErr-from, AppendsPart-front}
use Rattle.summary_text.proofs.TextLemmas.{line-begun}
use Rattle.summary_text.proofs.writing.write_constraint.Goals as goal

pub returns-in_err-write_decimal-clause-err : goal.returns-in_err-write_decimal-clause-err
returns-in_err-write_decimal-clause-err c =
    OnErr-from c.from_residual-in_err-write_decimal.result
    (AppendsPart-front _ _ (codes "constraint ") _ (c.in_err-write_decimal.ensures.err ∙ c.in_ok-extend_from_slice.ensures.items))

pub returns-clause-err : goal.returns-clause-err
returns-clause-err c =
    on_err_weaker c.write_last.result
    (λ part. line-begun _ _ _ _ (codes "constraint") _ _ c.in_ok-extend_from_slice.ensures.items c.in_ok-write_decimal.ensures.ok part)
    c.write_last.ensures.err

use Rattle.std.proofs.Common.{codes, ◌∙◌}
use Rattle.std.proofs.lemmas.Result.{on_err_weaker}
use Rattle.graph_text.proofs.PartLemmas.{OnErr-from, AppendsPart-front}
use Rattle.summary_text.proofs.TextLemmas.{line-begun}
use Rattle.summary_text.proofs.writing.write_class.Goals as goal

pub returns-in_err-extend_from_slice-2-clause-err : goal.returns-in_err-extend_from_slice-2-clause-err
returns-in_err-extend_from_slice-2-clause-err c =
    OnErr-from c.from_residual-in_err-extend_from_slice-2.result
    (AppendsPart-front _ _ (codes "class ") _ (c.in_err-extend_from_slice-2.ensures.items ∙ c.in_ok-extend_from_slice.ensures.items))

pub returns-clause-err : goal.returns-clause-err
returns-clause-err c =
    on_err_weaker c.write_last.result
    (λ part. line-begun _ _ _ _ (codes "class") _ _ c.in_ok-extend_from_slice.ensures.items (rw c.class_word.ensures at c.in_ok-extend_from_slice-2.ensures.items) part)
    (rw c.queries.ensures at c.write_last.ensures.err)

use Rattle.std.proofs.Common.{[], ◌∷◌, decimal}
use Rattle.std.proofs.lemmas.Result.{on_err_weaker}
use Rattle.graph_text.proofs.PartLemmas.{OnErr-from, AppendsPart-more, AppendsPart-after}
use Rattle.workload_text.proofs.writing.write_variable.Goals as goal

pub returns-in_err-write_bytes-clause-err : goal.returns-in_err-write_bytes-clause-err
returns-in_err-write_bytes-clause-err c =
    OnErr-from c.from_residual.result (AppendsPart-more _ _ (120 ∷ []) (decimal c.args.v) c.in_err-write_bytes.ensures.err)

pub returns-clause-err : goal.returns-clause-err
returns-clause-err c =
    on_err_weaker c.write_number.result (λ part. AppendsPart-after _ _ _ (120 ∷ []) (decimal c.args.v) c.in_ok-write_bytes.ensures.ok part)
    (rw c.into.ensures at c.write_number.ensures.err)

use Rattle.std.proofs.Common.{◌∙◌, [], ◌∷◌, decimal}
use Rattle.graph_text.proofs.PartLemmas.{OnErr-from, AppendsPart-front}
use Rattle.summary_text.proofs.TextLemmas.{appended-two}
use Rattle.summary_text.proofs.writing.write_last.Goals as goal

pub returns-in_err-push-2-clause-err : goal.returns-in_err-push-2-clause-err
returns-in_err-push-2-clause-err c =
    OnErr-from c.from_residual-in_err-push-2.result
    (AppendsPart-front _ _ (32 ∷ decimal c.args.n) (10 ∷ []) (c.in_err-push-2.ensures.items ∙ appended-two _ _ _ (32 ∷ []) _ c.in_ok-push.ensures.items c.in_ok-write_decimal.ensures.ok))

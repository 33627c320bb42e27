use Rattle.std.proofs.Common.{[], ◌∷◌, ◌++◌, ap, decimal, ◌∙◌}
use Rattle.graph_text.proofs.PartLemmas.{OnErr-from, AppendsPart-front}
use Rattle.graph_text.proofs.edge_text.write_number.Goals as goal

pub returns-in_err-push-clause-err : goal.returns-in_err-push-clause-err
returns-in_err-push-clause-err c =
    OnErr-from c.from_residual-in_err-push.result
    (AppendsPart-front c.args.out.now.items c.push.new.self.items (decimal c.args.n) (c.args.end ∷ [])
    (c.in_err-push.ensures.items ∙ c.in_ok-write_decimal.ensures.ok ∙ ap (λ n. c.args.out.now.items ++ decimal n) c.into.ensures))

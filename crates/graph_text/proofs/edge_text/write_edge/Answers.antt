use Rattle.std.proofs.Common.{subst}
use Rattle.std.proofs.lemmas.Result.{on_err_weaker}
use Rattle.graph_text.specs.EdgesText.{AppendsPart}
use Rattle.graph_text.proofs.PartLemmas.{OnErr-from, AppendsPart-more, AppendsPart-after, edge_line-parts}
use Rattle.graph_text.proofs.edge_text.write_edge.Goals as goal

pub returns-in_err-write_number-clause-err : goal.returns-in_err-write_number-clause-err
returns-in_err-write_number-clause-err c =
    OnErr-from c.from_residual.result
    (subst (AppendsPart c.args.out.now.items c.write_number.new.out.items) (edge_line-parts c.args.edge.now)
    (AppendsPart-more _ _ _ _ c.in_err-write_number.ensures.err))

pub returns-in_err-write_number-2-clause-err : goal.returns-in_err-write_number-2-clause-err
returns-in_err-write_number-2-clause-err c =
    OnErr-from c.from_residual-in_err-write_number-2.result
    (subst (AppendsPart c.args.out.now.items c.write_number-2.new.out.items) (edge_line-parts c.args.edge.now)
    (AppendsPart-after _ _ _ _ _ c.in_ok-write_number.ensures.ok (AppendsPart-more _ _ _ _ c.in_err-write_number-2.ensures.err)))

pub returns-clause-err : goal.returns-clause-err
returns-clause-err c =
    on_err_weaker c.write_number-3.result
    (λ part. subst (AppendsPart c.args.out.now.items c.write_number-3.new.out.items) (edge_line-parts c.args.edge.now)
    (AppendsPart-after _ _ _ _ _ c.in_ok-write_number.ensures.ok (AppendsPart-after _ _ _ _ _ c.in_ok-write_number-2.ensures.ok part)))
    c.write_number-3.ensures.err

use Rattle.std.proofs.Common.{decimal, subst}
use Rattle.std.proofs.lemmas.Result.{on_err_weaker, on_ok_weaker}
use Rattle.graph_text.specs.EdgesText.{AppendsPart}
use Rattle.graph_text.proofs.PartLemmas.{OnErr-from, AppendsPart-more, AppendsPart-after}
use Rattle.workload_text.specs.Writing.{mark}
use Rattle.workload_text.proofs.WritingLemmas.{symbol_word-parts, appended-two}
use Rattle.workload_text.proofs.writing.write_symbol.Goals as goal

pub returns-in_err-write_mark-clause-err : goal.returns-in_err-write_mark-clause-err
returns-in_err-write_mark-clause-err c =
    OnErr-from c.from_residual.result
    (subst (AppendsPart c.args.out.now.items c.write_mark.new.out.items) (symbol_word-parts c.args.symbol)
    (AppendsPart-more _ _ (mark c.args.symbol.back) (decimal c.args.symbol.edge) c.in_err-write_mark.ensures.err))

pub returns-clause-err : goal.returns-clause-err
returns-clause-err c =
    on_err_weaker c.write_number.result
    (λ part. subst (AppendsPart c.args.out.now.items c.write_number.new.out.items) (symbol_word-parts c.args.symbol)
    (AppendsPart-after _ _ _ (mark c.args.symbol.back) (decimal c.args.symbol.edge) c.in_ok-write_mark.ensures.ok part))
    (rw c.into.ensures at c.write_number.ensures.err)

pub returns-clause-ok : goal.returns-clause-ok
returns-clause-ok c =
    on_ok_weaker c.write_number.result
    (λ put. appended-two _ _ _ (mark c.args.symbol.back) (decimal c.args.symbol.edge) _ c.in_ok-write_mark.ensures.ok put (symbol_word-parts c.args.symbol))
    (rw c.into.ensures at c.write_number.ensures.ok)

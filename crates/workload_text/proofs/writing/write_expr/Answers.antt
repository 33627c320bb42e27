use Rattle.std.proofs.Common.{refl, sym, subst, [], ◌∷◌, ◌++◌, map, codes}
use Rattle.std.proofs.lemmas.Result.{on_err_weaker}
use Rattle.graph_text.specs.EdgesText.{AppendsPart}
use Rattle.graph_text.proofs.PartLemmas.{OnErr-from, AppendsPart-more, AppendsPart-after}
use Rattle.query_terms.specs.Lists.{words_in}
use Rattle.workload_text.specs.Lines.{written, union_word}
use Rattle.workload_text.proofs.WritingLemmas.{AppendsPart-stopped, appended-two, expr_word-starred}
use Rattle.workload_text.proofs.writing.write_expr.Goals as goal

pub returns-in_err-write_bytes-clause-err : goal.returns-in_err-write_bytes-clause-err
returns-in_err-write_bytes-clause-err c =
    OnErr-from c.from_residual.result
    (subst (AppendsPart c.args.out.now.items c.write_bytes.new.out.items) (expr_word-starred c.args.star (map (map written) (words_in c.args.symbols.now c.args.words.now)) c.if-not-star.false)
    (AppendsPart-more _ _ (40 ∷ []) (union_word (map (map written) (words_in c.args.symbols.now c.args.words.now)) ++ codes ")*") c.in_err-write_bytes.ensures.err))

pub returns-in_err-write_union-clause-err : goal.returns-in_err-write_union-clause-err
returns-in_err-write_union-clause-err c =
    OnErr-from c.from_residual-in_err-write_union.result
    (AppendsPart-stopped _ _ _ (40 ∷ []) (union_word (map (map written) (words_in c.args.symbols.now c.args.words.now))) (codes ")*") _
    (sym (expr_word-starred c.args.star (map (map written) (words_in c.args.symbols.now c.args.words.now)) c.if-not-star.false))
    c.in_ok-write_bytes.ensures.ok c.in_err-write_union.ensures.err)

pub returns-clause-err : goal.returns-clause-err
returns-clause-err c =
    on_err_weaker c.write_bytes-2.result
    (λ part. subst (AppendsPart c.args.out.now.items c.write_bytes-2.new.out.items) (expr_word-starred c.args.star (map (map written) (words_in c.args.symbols.now c.args.words.now)) c.if-not-star.false)
    (AppendsPart-after _ _ _ (40 ∷ union_word (map (map written) (words_in c.args.symbols.now c.args.words.now))) (codes ")*")
    (appended-two _ _ _ (40 ∷ []) _ _ c.in_ok-write_bytes.ensures.ok c.in_ok-write_union.ensures.ok refl) part))
    c.write_bytes-2.ensures.err

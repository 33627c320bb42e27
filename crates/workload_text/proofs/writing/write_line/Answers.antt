use Rattle.std.proofs.Common.{refl, ap, [], ◌∷◌, ◌++◌, ◌∙◌, map, arith}
use Rattle.std.specs.List.{join_with_byte}
use Rattle.std.proofs.lemmas.List.{take_all}
use Rattle.graph_text.proofs.PartLemmas.{OnErr-from, AppendsPart-more, AppendsPart-front}
use Rattle.workload_text.specs.declared.writing.Word.TheVariants.{Number}
use Rattle.workload_text.specs.Writing.{word_bytes}
use Rattle.workload_text.proofs.WritingLemmas.{Parts-line, joined-step, joined-gap, joined-item}
use Rattle.workload_text.proofs.writing.write_line.Goals as goal

pub returns-in_err-write_gap-clause-err : goal.returns-in_err-write_gap-clause-err
returns-in_err-write_gap-clause-err c =
    OnErr-from c.from_residual.result (AppendsPart-more _ _ _ (10 ∷ [])
    (joined-gap _ Parts-line 32 c.args.words.now c.loop-i.i (Number 0) c.loop-i-test.true _ refl _ _ c.loop-i.invariant _ c.in_err-write_gap.ensures.err))

pub returns-in_err-write_word-clause-err : goal.returns-in_err-write_word-clause-err
returns-in_err-write_word-clause-err c =
    OnErr-from c.from_residual-in_err-write_word.result (AppendsPart-more _ _ _ (10 ∷ [])
    (joined-item _ Parts-line 32 c.args.words.now c.loop-i.i _ c.loop-i-test.true _ refl _ _ c.loop-i.invariant _ _
    c.in_ok-write_gap.ensures.ok c.in_err-write_word.ensures.err))

pub loop-i-preserved : goal.loop-i-preserved
loop-i-preserved c =
    joined-step _ Parts-line 32 c.args.words.now c.loop-i.i _ c.loop-i-test.true _ refl _ _ c.loop-i.invariant _ _
    c.in_ok-write_gap.ensures.ok c.in_ok-write_word.ensures.ok

pub returns-in_err-push-clause-err : goal.returns-in_err-push-clause-err
returns-in_err-push-clause-err c =
    OnErr-from c.from_residual-in_err-push.result
    (AppendsPart-front _ _ (join_with_byte 32 (map word_bytes c.args.words.now)) (10 ∷ [])
    (c.in_err-push.ensures.items ∙ c.loop-i.invariant
    ∙ ap (λ ws. c.args.out.now.items ++ join_with_byte 32 (map word_bytes ws)) (take_all c.loop-i.i c.args.words.now (omega (arith, c.loop-i-test.false)))))

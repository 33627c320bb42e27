use Rattle.std.proofs.Common.{ap, map}
use Rattle.workload_text.specs.Forms.{read_symbol}
use Rattle.workload_text.specs.Sofar.{symbol_of}
use Rattle.workload_text.proofs.UnionLemmas.{some_before, word_of-some}
use Rattle.workload_text.proofs.unions.put_word.Goals as goal

pub end_word-requires-clause-some : goal.end_word-requires-clause-some
end_word-requires-clause-some c =
    some_before _ _ _ c.loop-part.invariant.whole (ap (λ ps. map symbol_of (map read_symbol ps)) c.in_default-next_part.ensures.part) (word_of-some c.args.word.now)

use Rattle.std.proofs.Common.{◌≡◌, ◌&&◌, drop}
use Rattle.workload_text.specs.Forms.{is_union_word}
use Rattle.workload_text.specs.Joined.{all_fit}
use Rattle.workload_text.proofs.parts.is_union_word.Given as goal

-- the bytes so far and those that are left decide
abbrev pub invariant-loop-byte : goal.invariant-loop-byte
invariant-loop-byte l = is_union_word l.word ≡ (l.fit && all_fit l.second l.before (drop l.byte-index l.word))

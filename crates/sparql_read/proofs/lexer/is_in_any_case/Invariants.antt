use Rattle.std.proofs.Common.{◌≡◌, length}
use Rattle.sparql_read.specs.Tokens.{in_any_case}
use Rattle.sparql_read.proofs.lexer.is_in_any_case.Given as goal

abbrev pub invariant-loop-bytes : goal.invariant-loop-bytes
invariant-loop-bytes l = in_any_case l.bytes l.word ≡ in_any_case l.bytes-2 l.word-2

abbrev pub decreases-loop-bytes : goal.decreases-loop-bytes
decreases-loop-bytes l = length l.bytes

use Rattle.std.proofs.Common.{◌≡◌, ◌+◌, length}
use Rattle.sparql_read.specs.Tokens.{run_of}
use Rattle.sparql_read.specs.View.{kind_test}
use Rattle.sparql_read.proofs.lexer.run_length.Given as goal

abbrev pub invariant-loop-rest : goal.invariant-loop-rest
invariant-loop-rest l = record {
  run : l.count + length (run_of (kind_test l.kind) l.rest) ≡ length (run_of (kind_test l.kind) l.bytes);
  all : l.count + length l.rest ≡ length l.bytes;
}

abbrev pub decreases-loop-rest : goal.decreases-loop-rest
decreases-loop-rest l = length l.rest

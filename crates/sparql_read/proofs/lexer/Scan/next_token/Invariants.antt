use Rattle.std.proofs.Common.{[], ◌≤◌, length}
use Rattle.token_text.proofs.TokenLemmas.{Lexed}
use Rattle.sparql_read.specs.Tokens.{first}
use Rattle.sparql_read.proofs.lexer.Scan.next_token.Given as goal

abbrev pub invariant-loop-self : goal.invariant-loop-self
invariant-loop-self l = record {
  gaps : Lexed first l.fn.self.rest.now [] l.self.rest.now;
  shorter : length l.self.rest.now ≤ length l.fn.self.rest.now;
}

abbrev pub decreases-loop-self : goal.decreases-loop-self
decreases-loop-self l = length l.self.rest.now

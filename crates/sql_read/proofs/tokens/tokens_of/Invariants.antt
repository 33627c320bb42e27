use Rattle.std.proofs.Common.{◌≤◌, ◌+◌, length}
use Rattle.sql_read.specs.Tokens.{first}
use Rattle.sql_read.specs.View.{tokens_view}
use Rattle.token_text.proofs.TokenLemmas.{Lexed}
use Rattle.sql_read.proofs.tokens.tokens_of.Given as goal

abbrev pub invariant-loop-rest : goal.invariant-loop-rest
invariant-loop-rest l = record {
  lexed : Lexed first l.fn.text (tokens_view l.tokens.items) l.rest;
  few : length l.tokens.items + length l.rest ≤ length l.fn.text;
}

abbrev pub decreases-loop-rest : goal.decreases-loop-rest
decreases-loop-rest l = length l.rest

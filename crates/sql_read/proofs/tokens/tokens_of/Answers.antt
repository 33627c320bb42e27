use Rattle.std.proofs.Common.{◌≡◌, ◌++◌, [], ◌∷◌, sym, ap, subst, ◌∙◌, Some, None, option_map, List, Option, option_to_list, arith}
use Rattle.std.proofs.lemmas.Grind.{common_steps}
use Rattle.std.proofs.lemmas.List.{append-nil, map-append}
use Rattle.token_text.proofs.TokenLemmas.{Lexed}
use Rattle.sql_read.specs.declared.tokens.Token.{Token}
use Rattle.sql_read.specs.Tokens as grammar
use Rattle.sql_read.specs.Tokens.{first}
use Rattle.sql_read.specs.View.{token_view, tokens_view}
use Rattle.sql_read.proofs.TokenLemmas.{lex_none, lex_next, lex_all}
use Rattle.sql_read.proofs.tokens.tokens_of.Goals as goal

read_token : (read : List grammar.Token) (x : Option Token) (t : Token) → x ≡ Some t → read ++ option_to_list (option_map token_view x) ≡ read ++ token_view t ∷ []
read_token read x t e = ap (λ y. read ++ option_to_list (option_map token_view y)) e

read_blank : (read : List grammar.Token) (x : Option Token) → x ≡ None → read ++ option_to_list (option_map token_view x) ≡ read
read_blank read x e = ap (λ y. read ++ option_to_list (option_map token_view y)) e ∙ append-nil read

pub returns-in_default-clause-is : goal.returns-in_default-clause-is
returns-in_default-clause-is c =
    lex_none _ _ c.loop-rest.rest.now (grind (arith, common_steps)) c.in_default.ensures.is c.loop-rest.invariant.lexed

pub loop-rest-preserved-in_ok-push : goal.loop-rest-preserved-in_ok-push
loop-rest-preserved-in_ok-push c =
    let pushed = ap tokens_view c.in_ok-push.ensures.items ∙ map-append token_view _ _ in
    let next = lex_next _ _ c.loop-rest.rest.now _ (option_map token_view c.in-Some.token) (grind (arith, common_steps)) c.in-Some.ensures.is c.loop-rest.invariant.lexed in
    record {
      lexed = subst (λ read. Lexed first c.args.text.now read c.in-Some.more.now) (read_token _ c.in-Some.token _ c.in-Some-token.is ∙ sym pushed) next;
      few = grind (arith, common_steps);
    }

pub loop-rest-preserved : goal.loop-rest-preserved
loop-rest-preserved c =
    let next = lex_next _ _ c.loop-rest.rest.now _ (option_map token_view c.in-Some.token) (grind (arith, common_steps)) c.in-Some.ensures.is c.loop-rest.invariant.lexed in
    record {
      lexed = subst (λ read. Lexed first c.args.text.now read c.in-Some.more.now) (read_blank _ c.in-Some.token c.in_default-token.is) next;
      few = grind (arith, common_steps);
    }

pub returns-clause-is : goal.returns-clause-is
returns-clause-is c = lex_all _ _ c.loop-rest.rest.now (grind (arith, common_steps)) c.loop-rest.invariant.lexed

use Rattle.std.proofs.Common.{◌≡◌, rules, subst, sym, Some}
use Rattle.sparql_read.specs.Tokens.{Token, Word, Where}
use Rattle.sparql_read.specs.View.{token_view}
use Rattle.sparql_read.specs.Places.{StepIs}
use Rattle.sparql_read.specs.TextMachine.{step}
use Rattle.sparql_read.specs.declared.places.Place.TheVariants as places
use Rattle.sparql_read.proofs.SpotLemmas.{where_where, where_brace}
use Rattle.sparql_read.proofs.places.at_where.Goals as goal

pub returns-in-Word-Where : goal.returns-in-Word-Where
returns-in-Word-Where c = let e : token_view c.args.token.now ≡ Word Where = search rules in
    λ l s x. subst (λ (t : Token). StepIs l (Some places.AtBrace) (step s t)) (sym e) (where_where l s x)

pub returns-in-LeftBrace : goal.returns-in-LeftBrace
returns-in-LeftBrace c = rw c.in-LeftBrace.is where_brace

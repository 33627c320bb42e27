use Rattle.std.proofs.Common.{◌≡◌, rules, subst, sym, refl, Some}
use Rattle.sparql_read.specs.Tokens.{Token, Word, Where}
use Rattle.sparql_read.specs.View.{token_view}
use Rattle.sparql_read.specs.Places.{StepIs}
use Rattle.sparql_read.specs.TextMachine.{step}
use Rattle.sparql_read.specs.declared.places.Place.TheVariants as places
use Rattle.std.proofs.Common.{◌<◌, length, arith}
use Rattle.std.proofs.lemmas.Grind.{common_steps}
use Rattle.std.proofs.lemmas.Bool.Decides.{nat_tests}
use Rattle.sparql_read.proofs.SpotLemmas.{head_next, heads_where, heads_brace}
use Rattle.sparql_read.proofs.places.at_heads.Goals as goal

pub returns-in_ok-push-in-Variable-clause-is : goal.returns-in_ok-push-in-Variable-clause-is
returns-in_ok-push-in-Variable-clause-is c = let few : length c.args.parts.now.heads.items < 4 = grind (arith, common_steps, nat_tests, c.if-len-ge-HEADS_MOST.false, c.len.ensures, c.args.parts.now.heads.ok.0) in
    rw c.in-Variable.is (λ s x. head_next _ _ s c.in-Variable.name c.in_ok-push-in-Variable.ensures.items record { groups = refl; patterns = refl; paths = refl; levels = refl; first = refl; all_occur = refl } few x)

pub returns-in-Word-Where-clause-is : goal.returns-in-Word-Where-clause-is
returns-in-Word-Where-clause-is c = let e : token_view c.args.token.now ≡ Word Where = search rules in
    λ s x. subst (λ (t : Token). StepIs c.args.parts.now (Some places.AtBrace) (step s t)) (sym e) (heads_where _ s x)

pub returns-in-LeftBrace-clause-is : goal.returns-in-LeftBrace-clause-is
returns-in-LeftBrace-clause-is c = rw c.in-LeftBrace.is (λ s x. heads_brace _ s x)

use Rattle.std.proofs.Common.{◌≡◌, rules, subst, sym, Some}
use Rattle.sparql_read.specs.Tokens.{Token, Word, Union}
use Rattle.sparql_read.specs.View.{token_view}
use Rattle.sparql_read.specs.Places.{StepIs}
use Rattle.sparql_read.specs.TextMachine.{step}
use Rattle.sparql_read.specs.declared.places.Place.TheVariants as places
use Rattle.sparql_read.proofs.SpotLemmas.{group_union, group_end}
use Rattle.sparql_read.proofs.places.behind_group.Goals as goal

pub returns-in-Word-Union : goal.returns-in-Word-Union
returns-in-Word-Union c = let e : token_view c.args.token.now ≡ Word Union = search rules in
    λ l s x. subst (λ (t : Token). StepIs l (Some places.AtGroup) (step s t)) (sym e) (group_union l s x)

pub returns-in-RightBrace : goal.returns-in-RightBrace
returns-in-RightBrace c = rw c.in-RightBrace.is group_end

use Rattle.std.proofs.Common.{Some, None}
use Rattle.sql_read.specs.View.{token_view}
use Rattle.sql_read.proofs.TokenLemmas.{front_is}
use Rattle.sql_read.proofs.tokens.run_front.Goals as goal

pub returns-in-Some-clause-is : goal.returns-in-Some-clause-is
returns-in-Some-clause-is c b whole =
    front_is (Some (token_view c.in-Some.token)) c.args.bytes.now _ c.args.more.now b c.after_run-rest.ensures.rest whole c.in-Some.ensures

pub returns-in-None-clause-is : goal.returns-in-None-clause-is
returns-in-None-clause-is c b whole = front_is None c.args.bytes.now _ c.args.more.now b c.after_run-rest.ensures.rest whole c.in-None.ensures

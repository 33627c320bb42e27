use Rattle.std.proofs.Common.{[], sym}
use Rattle.sql_read.specs.Parsed.{kept_of}
use Rattle.sql_read.specs.Scope.{found_in}
use Rattle.sql_read.proofs.ConditionLemmas.{query_unfound, query_misnamed, query_checked}
use Rattle.sql_read.proofs.conditions.query_holds.Goals as goal

pub returns-in_default : goal.returns-in_default
returns-in_default c headers knows =
    query_unfound c.args.scope.now headers knows (kept_of c.args.lists.now) c.args.select _ (rw c.deref.ensures.value at c.part-froms.ensures) (rw c.in_default.is at c.in_ok-aliases.ensures)

pub returns-then-not-cols_hold : goal.returns-then-not-cols_hold
returns-then-not-cols_hold c headers knows =
    let found = rw c.in-Some.is at c.in_ok-aliases.ensures in
    query_misnamed c.args.scope.now headers knows (kept_of c.args.lists.now) c.args.select _ (rw c.deref.ensures.value at c.part-froms.ensures) (found_in c.in-Some.aliases) _ []
    found.0 found.1 (rw c.deref-2.ensures.value at c.part.ensures) (sym c.if-not-cols_hold.ensures)

pub returns : goal.returns
returns c headers knows =
    let found = rw c.in-Some.is at c.in_ok-aliases.ensures in
    query_checked c.args.scope.now headers knows (kept_of c.args.lists.now) c.args.select _ (rw c.deref.ensures.value at c.part-froms.ensures) (found_in c.in-Some.aliases) _ _
    found.0 found.1 (rw c.deref-2.ensures.value at c.part.ensures) _ (sym c.if-not-cols_hold.ensures) (rw c.deref-3.ensures.value at c.part-2.ensures) c.equations_hold.ensures

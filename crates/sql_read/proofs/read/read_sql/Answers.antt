use Rattle.std.proofs.Common.{sym, ◌∙◌}
use Rattle.sql_read.proofs.ReadLemmas.{unread, unheld}
use Rattle.sql_read.proofs.read.read_sql.Goals as goal

pub returns-in_default-2-clause-not_sql : goal.returns-in_default-2-clause-not_sql
returns-in_default-2-clause-not_sql c e =
    unread c.args.text.now _ c.in-Some.tokens.items c.in_ok-copy.ensures (rw c.in-Some.is at c.in_ok-tokens.ensures.is)
    (rw c.deref.ensures.value at (rw c.in_default-2.is at c.in_ok-last.ensures.is))

pub returns-then-not-branch-clause-not_sql : goal.returns-then-not-branch-clause-not_sql
returns-then-not-branch-clause-not_sql c e =
    unheld c.args.text.now _ c.in-Some.tokens.items c.in_ok-copy.ensures (rw c.in-Some.is at c.in_ok-tokens.ensures.is) _ _
    (rw c.deref.ensures.value at (rw c.in-Some-2.is at c.in_ok-last.ensures.is)) (sym c.in_ok-text_holds.ensures ∙ c.if-not-branch.true)

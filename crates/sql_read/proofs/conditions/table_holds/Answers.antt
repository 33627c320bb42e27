use Rattle.std.proofs.Common.{sym, ◌∙◌}
use Rattle.sql_read.specs.Parsed.{kept_of}
use Rattle.sql_read.proofs.ConditionLemmas.{table_unlike, earlier_fit, last_fits, table_wrong_earlier, table_wrong_last, table_several, own_known}
use Rattle.sql_read.proofs.conditions.table_holds.Goals as goal

pub returns-then-not-have_width-clause-is : goal.returns-then-not-have_width-clause-is
returns-then-not-have_width-clause-is c headers knows many =
    table_unlike (kept_of c.args.lists.now) c.args.table headers _ _ (rw c.deref.ensures.value at c.part-body.ensures)
    (rw c.deref-2.ensures.value at c.part-names.ensures) c.requires.fits (sym c.if-not-have_width.ensures)

pub queries_hold-requires : goal.queries_hold-requires
queries_hold-requires c =
    earlier_fit (kept_of c.args.lists.now) c.args.table c.requires.scope.headers _ _ (rw c.deref.ensures.value at c.part-body.ensures)
    (rw c.deref-2.ensures.value at c.part-names.ensures) c.requires.fits _ _ c.in-Some.ensures

pub query_holds-requires-2 : goal.query_holds-requires-2
query_holds-requires-2 c =
    last_fits (kept_of c.args.lists.now) c.args.table c.requires.scope.headers _ _ (rw c.deref.ensures.value at c.part-body.ensures)
    (rw c.deref-2.ensures.value at c.part-names.ensures) c.requires.fits _ _ c.in-Some.ensures

pub returns-then-not-branch-clause-is : goal.returns-then-not-branch-clause-is
returns-then-not-branch-clause-is c headers knows many =
    table_wrong_earlier (kept_of c.args.lists.now) c.args.table headers _ _ (rw c.deref.ensures.value at c.part-body.ensures)
    (rw c.deref-2.ensures.value at c.part-names.ensures) c.requires.fits _ _ c.in-Some.ensures
    (sym (c.in_ok-queries_hold.ensures headers knows) ∙ c.if-not-branch.true)

pub returns-then-not-branch-4-clause-is : goal.returns-then-not-branch-4-clause-is
returns-then-not-branch-4-clause-is c headers knows many =
    let known = own_known (kept_of c.args.lists.now) c.args.table headers _ _ (rw c.deref.ensures.value at c.part-body.ensures)
    (rw c.deref-2.ensures.value at c.part-names.ensures) c.requires.fits _ (c.in_ok-add_table.ensures.added c.if-not-branch-3.false headers knows many) in
    table_wrong_last (kept_of c.args.lists.now) c.args.table headers _ _ (rw c.deref.ensures.value at c.part-body.ensures)
    (rw c.deref-2.ensures.value at c.part-names.ensures) c.requires.fits _ _ c.in-Some.ensures c.if-is_empty.ensures
    (sym (c.in_ok-query_holds-2.ensures _ known) ∙ c.if-not-branch-4.true)

pub part-requires : goal.part-requires
part-requires c =
    let fits = last_fits (kept_of c.args.lists.now) c.args.table c.requires.scope.headers _ _ (rw c.deref.ensures.value at c.part-body.ensures)
    (rw c.deref-2.ensures.value at c.part-names.ensures) c.requires.fits _ _ c.in-Some.ensures in
    rw c.deref-3.ensures.value fits.tables

pub returns-clause-is : goal.returns-clause-is
returns-clause-is c headers knows many =
    let known = own_known (kept_of c.args.lists.now) c.args.table headers _ _ (rw c.deref.ensures.value at c.part-body.ensures)
    (rw c.deref-2.ensures.value at c.part-names.ensures) c.requires.fits _ (c.in_ok-add_table.ensures.added c.if-not-branch-3.false headers knows many) in
    table_several (kept_of c.args.lists.now) c.args.table headers _ _ (rw c.deref.ensures.value at c.part-body.ensures)
    (rw c.deref-2.ensures.value at c.part-names.ensures) c.requires.fits _ _ c.in-Some.ensures _ _ c.if-is_empty.ensures (sym c.if-not-have_width.ensures)
    (sym (c.in_ok-add_table.ensures.is headers knows) ∙ c.if-not-branch-3.false)
    (sym (c.in_ok-queries_hold.ensures headers knows) ∙ c.if-not-branch.false)
    (sym (c.in_ok-query_holds-2.ensures _ known) ∙ c.if-not-branch-4.false)
    (rw c.deref-3.ensures.value at c.part.ensures) c.takes_once.ensures

use Rattle.std.proofs.Common.{◌∙◌, ap, length, refl, arith}
use Rattle.std.proofs.lemmas.List.{length_push}
use Rattle.sql_read.proofs.PartLemmas.{tables_start, tables_none, tables_more, tables_end}
use Rattle.sql_read.proofs.ListLemmas.{begins_push, begins_refl}
use Rattle.sql_read.proofs.parts.pass_tables.Goals as goal

pub loop-table-init : goal.loop-table-init
loop-table-init c = record { listing = tables_start _ _; paid = (omega arith, omega arith) }

pub returns-in_default-clause-is : goal.returns-in_default-clause-is
returns-in_default-clause-is c = tables_none _ _ _ _ c.loop-table.invariant.listing (rw c.in_default.is at c.in_ok-table.ensures.is)

pub returns-then-not-pass_mark-clause-is : goal.returns-then-not-pass_mark-clause-is
returns-then-not-pass_mark-clause-is c =
    let kept = c.if-not-pass_mark.ensures.kept refl in
    rw kept (tables_end _ _ _ _ _ _ _ _ c.loop-table.invariant.listing (rw c.in-Some.is at c.in_ok-table.ensures.is) c.in_ok-table.ensures.others
    (record {
      columns = begins_refl _;
      froms = begins_refl _;
      equations = begins_refl _;
      names = begins_refl _;
      selects = begins_refl _;
      tables = begins_push _ _ _ c.in_ok-push.ensures.items;
    })
    c.in_ok-push.ensures.items c.requires.none (c.if-not-pass_mark.ensures.none refl))

pub loop-table-preserved : goal.loop-table-preserved
loop-table-preserved c =
    let pushed = ap length c.in_ok-push.ensures.items ∙ length_push _ _ in
    let paid = rw c.in-Some.is at c.in_ok-table.ensures.paid in
    record {
      listing =
          tables_more _ _ _ _ _ _ _ _ _ c.loop-table.invariant.listing (rw c.in-Some.is at c.in_ok-table.ensures.is) c.in_ok-table.ensures.others
          (record {
            columns = begins_refl _;
            froms = begins_refl _;
            equations = begins_refl _;
            names = begins_refl _;
            selects = begins_refl _;
            tables = begins_push _ _ _ c.in_ok-push.ensures.items;
          })
          c.in_ok-push.ensures.items (c.if-not-pass_mark.ensures.passed refl);
      paid = (
        omega (arith, pushed, c.loop-table.invariant.paid.0, paid.0, c.if-not-pass_mark.ensures.count),
        omega (arith, c.loop-table.invariant.paid.1, paid.1, c.if-not-pass_mark.ensures.count),
      );
    }

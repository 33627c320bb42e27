use Rattle.std.proofs.Common.{◌+◌, [], Some, ap, refl, sym, ◌∙◌, true≢false, arith}
use Rattle.std.proofs.lemmas.Grind.{common_steps}
use Rattle.std.proofs.lemmas.Option.{slice_get-get_or}
use Rattle.sql_read.specs.Parsed.{kept_of}
use Rattle.sql_read.proofs.ConditionLemmas.{no_tables, so_far_start, so_far_more, so_far_end}
use Rattle.sql_read.proofs.conditions.text_holds.Goals as goal

pub unreachable-requires : goal.unreachable-requires
unreachable-requires c =
    let none = no_tables (record { tables = c.new.result; columns = c.new-2.result }) c.new.ensures.empty c.new-2.ensures.empty in
    true≢false (sym (c.in_ok-add_table.ensures.is [] none) ∙ c.if-not-branch.true)

pub loop-i-init : goal.loop-i-init
loop-i-init c =
    let none = no_tables (record { tables = c.new.result; columns = c.new-2.result }) c.new.ensures.empty c.new-2.ensures.empty in
    so_far_start _ (kept_of c.args.lists.now) c.args.last (c.in_ok-add_table.ensures.added c.if-not-branch.false [] none refl) c.requires.fits.tables

pub loop-i-preserved : goal.loop-i-preserved
loop-i-preserved c =
    let far = c.loop-i.invariant in
    so_far_more _ (kept_of c.args.lists.now) c.args.last c.loop-i.i far c.index-table.result.now (grind (arith, common_steps))
    (slice_get-get_or c.args.lists.now.tables.items c.loop-i.i c.index-table.result.now (grind (arith, common_steps)) ∙ ap Some (sym c.index-table.ensures))
    _ (c.loop-i.i + 1) refl (sym (c.in_ok-table_holds.ensures.is far.headers far.knows far.many) ∙ c.if-not-branch-2.false)
    (c.in_ok-table_holds.ensures.added c.if-not-branch-2.false far.headers far.knows far.many)

pub returns : goal.returns
returns c =
    let far = c.loop-i.invariant in
    so_far_end _ (kept_of c.args.lists.now) c.args.last c.loop-i.i far _ (grind (arith, common_steps)) (c.in_ok-hold.ensures far.headers far.knows)

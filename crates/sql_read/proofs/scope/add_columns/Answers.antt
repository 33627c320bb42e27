use Rattle.std.proofs.Common.{◌≡◌, ◌-◌, ℕ, get_or, List, [], Bool, true, false, not, refl, sym, arith}
use Rattle.std.specs.Borrow.{Bor}
use Rattle.std.proofs.lemmas.Grind.{common_steps}
use Rattle.std.proofs.lemmas.Option.{slice_get-get_or}
use Rattle.sql_read.proofs.ScopeLemmas.{columns_refused, columns_more}
use Rattle.sql_read.proofs.scope.add_columns.Goals as goal

abbrev no_name : Bor (List ℕ)
no_name = record { ref_ptr = (0, 0); now = [] }

was_there : (b there : Bool) → b ≡ not there → b ≡ false → there ≡ true
was_there b there e h = grind arith

was_new : (b there : Bool) → b ≡ not there → b ≡ true → there ≡ false
was_new b there e h = grind arith

pub returns-then-not-branch-clause-differ : goal.returns-then-not-branch-clause-differ
returns-then-not-branch-clause-differ c =
    sym (columns_refused c.args.scope.now c.loop-i.scope c.args.number c.args.names.now c.loop-i.i (get_or c.args.names.now (c.loop-i.i - 1) no_name) c.loop-i.invariant
    (c.requires (get_or c.args.names.now (c.loop-i.i - 1) no_name)) (grind (arith, common_steps))
    (slice_get-get_or c.args.names.now (c.loop-i.i - 1) no_name (grind (arith, common_steps))) (was_there _ _ c.in_ok-insert.ensures.added c.if-not-branch.true))

pub loop-i-preserved : goal.loop-i-preserved
loop-i-preserved c =
    columns_more c.args.scope.now c.loop-i.scope _ c.args.number c.args.names.now c.loop-i.i (get_or c.args.names.now (c.loop-i.i - 1) no_name) c.loop-i.invariant
    (c.requires (get_or c.args.names.now (c.loop-i.i - 1) no_name)) (grind (arith, common_steps))
    (slice_get-get_or c.args.names.now (c.loop-i.i - 1) no_name (grind (arith, common_steps))) (was_new _ _ c.in_ok-insert.ensures.added c.if-not-branch.false)
    (λ n q. c.in_ok-insert.ensures.updates.0 (n, q)) refl

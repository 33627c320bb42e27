use Rattle.std.proofs.Common.{◌==◌, ◌||◌, ◌&&◌, ap, sym, ◌∙◌}
use Rattle.std.proofs.Math.Bool.{or-false}
use Rattle.bit_rows.specs.Sets.{has}
use Rattle.bit_rows.proofs.SetLemmas.{has-insert}
use Rattle.sel_graph.proofs.rows.set_if.Goals as goal

pub returns-then-shall : goal.returns-then-shall
returns-then-shall c = λ p.
    ap (λ s. has s p) c.set.ensures ∙ (has-insert c.args.row.now c.args.n p ∙ ap (λ b. has c.args.row.now p || (b && (c.args.n == p))) (sym c.if-shall.true))

pub returns-else-shall : goal.returns-else-shall
returns-else-shall c = λ p.
    sym (or-false (has c.args.row.now p)) ∙ ap (λ b. has c.args.row.now p || (b && (c.args.n == p))) (sym c.if-shall.false)

use Rattle.std.proofs.Common.{◌≡◌, ◌==◌, ◌||◌, ◌&&◌, nat_lt, length, ap, ◌∙◌, arith}
use Rattle.std.proofs.lemmas.Bool.{le-ltb}
use Rattle.bit_rows.specs.Sets.{has, set_at}
use Rattle.bit_rows.proofs.SetLemmas.{has-empty}
use Rattle.sel_graph.proofs.RowLemmas.{row_with-more, rows_with-all}
use Rattle.sel_graph.proofs.rows.rows_with.Goals as goal

pub loop-p-init : goal.loop-p-init
loop-p-init c = λ p. rw (c.empty-having.ensures, le-ltb p 0 (omega arith)) (has-empty p)

pub loop-p-preserved : goal.loop-p-preserved
loop-p-preserved c = λ p.
    let got = c.get.ensures ∙ ap (λ s. has s c.args.q) c.row.ensures in
    c.set_if.ensures p
    ∙ (ap (λ b. has c.loop-p.having p || (b && (c.loop-p.p == p))) got ∙ row_with-more c.args.rows.now c.loop-p.having c.args.q c.loop-p.p p (c.loop-p.invariant p))

pub returns : goal.returns
returns c = λ p.
    let rows = c.args.rows.now in
    let all : c.loop-p.p ≡ length rows = omega (arith, c.requires.count) in
    c.loop-p.invariant p ∙ (ap (λ n. nat_lt p n && has (set_at rows p) c.args.q) all ∙ rows_with-all rows c.args.q p)

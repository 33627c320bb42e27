use Rattle.std.proofs.Common.{◌≡◌, ◌+◌, ◌||◌, ap, sym, ◌∙◌, arith}
use Rattle.std.specs.List.{list_any, range_with_len}
use Rattle.bit_rows.specs.Sets.{has}
use Rattle.bit_rows.proofs.SetLemmas.{any-range-more}
use Rattle.sel_graph.specs.Steps.{star_step, star_steps}
use Rattle.sel_graph.proofs.RowLemmas.{or_more}
use Rattle.sel_graph.proofs.move_rows.add_stars.Goals as goal

pub loop-n-preserved : goal.loop-n-preserved
loop-n-preserved c = λ q.
    let test = star_steps c.args.moves.now c.args.kind c.args.place q in
    let first : 0 + c.loop-n.n ≡ c.loop-n.n = omega arith in
    let more = rw first at (any-range-more test 0 c.loop-n.n) in
    c.add_star.ensures q
    ∙ (ap (λ v. has c.loop-n.row q || star_step c.args.moves.now c.args.kind c.args.place q v) c.op_at.ensures
    ∙ (or_more (has c.loop-n.row q) (has c.args.row.now q) (list_any test (range_with_len 0 c.loop-n.n)) (test c.loop-n.n) (c.loop-n.invariant q)
    ∙ ap (λ b. has c.args.row.now q || b) (sym more)))

pub returns : goal.returns
returns c = λ q. let last : c.loop-n.n ≡ 5 = omega arith in rw last at (c.loop-n.invariant q)

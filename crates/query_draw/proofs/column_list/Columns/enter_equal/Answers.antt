use Rattle.std.proofs.Common.{◌≡◌, ◌+◌, ◌<◌, length, refl, sym, subst, arith}
use Rattle.sel_algebra.specs.Table.{one_at}
use Rattle.query_draw.specs.Columns.{Tells, FirstColumns}
use Rattle.query_draw.proofs.ColumnLemmas.{Tells-equal, FirstColumns-none, FirstColumns-more}
use Rattle.query_draw.proofs.column_list.Columns.enter_equal.Goals as goal

pub loop-t-init : goal.loop-t-init
loop-t-init c = FirstColumns-none (length c.args.self.now) c.args.self.now one_at refl

pub loop-t-preserved : goal.loop-t-preserved
loop-t-preserved c =
    let n = length c.args.self.now in
    let t = c.loop-t.t in
    let lt : t < n = omega (arith, c.loop-t-test.true, c.count-t-end.ensures.count) in
    subst (λ cs. FirstColumns n (t + 1) cs one_at) (sym c.put.ensures)
    (FirstColumns-more n t c.loop-t.self one_at c.equal_column.result lt (λ i p. subst (λ d. Tells d i (one_at i t)) (sym c.equal_column.ensures) (Tells-equal t i (omega (arith, lt, c.count-t-end.ensures)))) c.loop-t.invariant)

pub returns : goal.returns
returns c =
    let n = length c.args.self.now in
    let all : c.loop-t.t ≡ n = omega (arith, c.loop-t-test.false, c.loop-t.auto.t-end, c.count-t-end.ensures.count) in
    subst (λ m. FirstColumns n m c.loop-t.self one_at) all c.loop-t.invariant

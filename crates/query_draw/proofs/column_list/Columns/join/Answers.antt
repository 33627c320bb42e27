use Rattle.std.proofs.Common.{◌≡◌, ◌+◌, ◌<◌, length, slice_set, ap, sym, subst, ◌∙◌, arith}
use Rattle.query_draw.specs.Columns.{AreJoined, joined_column}
use Rattle.query_draw.proofs.ColumnLemmas.{AreJoined-none, AreJoined-more}
use Rattle.query_draw.proofs.column_list.Columns.join.Goals as goal

pub loop-t-init : goal.loop-t-init
loop-t-init c = AreJoined-none c.args.self.now c.args.other.now

pub loop-t-preserved : goal.loop-t-preserved
loop-t-preserved c =
    let old = c.args.self.now in
    let others = c.args.other.now in
    let t = c.loop-t.t in
    let lt : t < length old = omega (arith, c.loop-t-test.true, c.count-t-end.ensures.count) in
    let column = c.joined_column.ensures ∙ (λ k. joined_column (c.at.ensures k) (c.at-in-loop-t.ensures k)) in
    subst (λ cs. AreJoined old others cs (t + 1)) (sym (c.put.ensures ∙ ap (slice_set c.loop-t.self t) column)) (AreJoined-more old others c.loop-t.self t lt c.loop-t.invariant)

pub returns : goal.returns
returns c =
    let all : c.loop-t.t ≡ length c.args.self.now = omega (arith, c.loop-t-test.false, c.loop-t.auto.t-end, c.count-t-end.ensures.count) in
    subst (AreJoined c.args.self.now c.args.other.now c.loop-t.self) all c.loop-t.invariant

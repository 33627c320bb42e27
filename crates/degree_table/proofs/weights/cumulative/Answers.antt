use Rattle.std.proofs.Common.{sym, arith}
use Rattle.std.proofs.lemmas.List.Sums.{sum_by_more}
use Rattle.std.proofs.lemmas.List.FromFn.{map-range_with_len_more}
use Rattle.degree_table.specs.DegreeTable.{sum_through}
use Rattle.degree_table.proofs.weights.cumulative.Goals as goal

pub loop-weight-preserved : goal.loop-weight-preserved
loop-weight-preserved c =
    let i = c.loop-weight.weight-index in
    let more = sum_by_more (λ w. w) c.args.weights.now i 0 (omega arith) in
    record {
      so_far = rw c.loop-weight.invariant.so_far (sym more);
      added = rw (c.in_ok-push.ensures.items, c.loop-weight.invariant.added, c.loop-weight.invariant.so_far, ← more) (sym (map-range_with_len_more (sum_through c.args.weights.now) 0 i i (omega arith)));
    }

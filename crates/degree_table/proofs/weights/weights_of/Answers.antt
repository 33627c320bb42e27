use Rattle.std.proofs.Common.{◌≡◌, ◌+◌, ◌-◌, sym, arith}
use Rattle.std.proofs.lemmas.List.FromFn.{map-range_with_len_more}
use Rattle.degree_table.specs.DegreeTable.{weight_of, least_of}
use Rattle.degree_table.proofs.weights.weights_of.Goals as goal

pub loop-degree-preserved : goal.loop-degree-preserved
loop-degree-preserved c =
    let spec = c.args.spec.now in
    let degree = c.loop-degree.degree in
    let next : degree + 1 - least_of spec ≡ degree - least_of spec + 1 = omega arith in
    rw (c.in_ok-push.ensures.items, c.loop-degree.invariant, c.weight_of.ensures, next) (sym (map-range_with_len_more (weight_of spec) (least_of spec) (degree - least_of spec) degree (omega arith)))

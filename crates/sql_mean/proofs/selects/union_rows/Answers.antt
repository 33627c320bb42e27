use Rattle.std.proofs.Common.{◌≤◌, length, arith}
use Rattle.sql_mean.proofs.LoopLemmas.{whole_union}
use Rattle.sql_mean.proofs.selects.union_rows.Goals as goal

pub returns : goal.returns
returns c =
    let past : length c.args.selects.now ≤ c.loop-select.select-index = omega (arith, c.loop-select-test.false) in
    whole_union c.args.known.now c.args.query.now.kept c.args.selects.now c.loop-select.select-index c.loop-select.rows.items past c.loop-select.invariant

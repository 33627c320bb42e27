use Rattle.std.proofs.Common.{◌≡◌, ◌-◌, List, suc, length, map, take, drop, refl, ap, ◌∙◌, arith}
use Rattle.std.proofs.lemmas.Grind.{common_steps}
use Rattle.sql_read.specs.Kept.{cut, query_in}
use Rattle.sql_read.specs.declared.query.Select.{Select}
use Rattle.sql_mean.specs.Evaluation.{union_list, joined}
use Rattle.sql_mean.proofs.RoundLemmas.{first_round, later_round, fewer_left, is_stable}
use Rattle.sql_mean.proofs.tables.rounds.Goals as goal

pub loop-rows-init : goal.loop-rows-init
loop-rows-init c =
    let selects : List Select = cut c.args.query.now.kept.selects c.args.table.body in
    let count : c.saturating_sub.result ≡ length selects - 1 = grind (arith, common_steps) in
    let front : c.split_at.result.0.now ≡ take c.saturating_sub.result selects = cc in
    let more = c.in_ok-union_rows.ensures ∙ ap (λ known. union_list known (map (λ s. query_in s c.args.query.now.kept) c.split_at.result.0.now)) c.deref.ensures.value in
    let made = c.in_ok-join.ensures ∙ ap (joined c.new-rows.result.items) more in
    record {
      known = refl;
      made = (
        0,
        first_round c.args.query.now.kept c.args.table c.saturating_sub.result count c.args.known.now.items c.split_at.result.0.now front
            c.join.new.rows.items c.new-rows.result.items c.new-rows.ensures.items made,
      );
    }

pub returns-then-len-before-clause-rows : goal.returns-then-len-before-clause-rows
returns-then-len-before-clause-rows c =
    let selects : List Select = cut c.args.query.now.kept.selects c.args.table.body in
    let count : c.saturating_sub.result ≡ length selects - 1 = grind (arith, common_steps) in
    let back : c.split_at.result.1.now ≡ drop c.saturating_sub.result selects = cc in
    let made = c.loop-rows.invariant.made in
    let next = later_round c.args.query.now.kept c.args.table c.saturating_sub.result count c.args.known.now.items c.split_at.result.1.now back made.0 c.loop-rows.rows.items c.in_ok-rows.rows.items
    c.loop-rows.known.items c.loop-rows.invariant.known made.1 c.in_ok-rows.ensures.rows in
    is_stable c.args.known.now.items c.args.table c.args.query.now.kept made.0 c.loop-rows.rows.items c.in_ok-rows.rows.items made.1 next (grind (arith, common_steps))

pub loop-rows-smaller : goal.loop-rows-smaller
loop-rows-smaller c =
    let selects : List Select = cut c.args.query.now.kept.selects c.args.table.body in
    let count : c.saturating_sub.result ≡ length selects - 1 = grind (arith, common_steps) in
    let back : c.split_at.result.1.now ≡ drop c.saturating_sub.result selects = cc in
    let made = c.loop-rows.invariant.made in
    let next = later_round c.args.query.now.kept c.args.table c.saturating_sub.result count c.args.known.now.items c.split_at.result.1.now back made.0 c.loop-rows.rows.items c.in_ok-rows.rows.items
    c.loop-rows.known.items c.loop-rows.invariant.known made.1 c.in_ok-rows.ensures.rows in
    fewer_left c.args.known.now.items c.args.table c.args.query.now.kept made.0 c.loop-rows.rows.items c.in_ok-rows.rows.items made.1 next (λ same. absurd (grind (arith, common_steps, same)))

pub loop-rows-preserved : goal.loop-rows-preserved
loop-rows-preserved c =
    let selects : List Select = cut c.args.query.now.kept.selects c.args.table.body in
    let count : c.saturating_sub.result ≡ length selects - 1 = grind (arith, common_steps) in
    let back : c.split_at.result.1.now ≡ drop c.saturating_sub.result selects = cc in
    let made = c.loop-rows.invariant.made in
    let next = later_round c.args.query.now.kept c.args.table c.saturating_sub.result count c.args.known.now.items c.split_at.result.1.now back made.0 c.loop-rows.rows.items c.in_ok-rows.rows.items
    c.loop-rows.known.items c.loop-rows.invariant.known made.1 c.in_ok-rows.ensures.rows in
    record { known = c.in_ok-rows.ensures.known ∙ c.loop-rows.invariant.known; made = (suc made.0, next) }

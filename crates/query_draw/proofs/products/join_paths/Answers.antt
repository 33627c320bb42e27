use Rattle.std.proofs.Common.{◌≡◌, ◌<◌, ◌≤◌, length, ap, sym, subst, ◌∙◌, arith}
use Rattle.sel_algebra.specs.Table.{types_most}
use Rattle.query_draw.specs.Columns.{column_at, joined_column, followed_column, normal_column}
use Rattle.query_draw.specs.TypeSets.{HasNone}
use Rattle.query_draw.proofs.TypeSetLemmas.{IsWithout-lesser, AreIn-without}
use Rattle.query_draw.proofs.ProductLemmas.{JoinsPathsBut, JoinsPathsBut-none, JoinsPathsBut-more, JoinsPathsBut-all}
use Rattle.query_draw.proofs.products.join_paths.Goals as goal

pub loop-middle-init : goal.loop-middle-init
loop-middle-init c = record {
  steps = λ k lt there. there;
  joins = JoinsPathsBut-none c.args.growing c.args.paths.now c.args.steps c.args.to c.args.column;
}

pub loop-middle-preserved : goal.loop-middle-preserved
loop-middle-preserved c =
    let paths = c.args.paths.now in
    let steps = c.args.steps in
    let rest = c.loop-middle.rest in
    let m = c.in-Some.middle in
    let next = c.without-rest.result in
    let long = c.count.ensures.count in
    let few : length paths ≤ types_most = subst (λ n. n ≤ types_most) long c.count.ensures.few in
    let within : m < length paths = subst (λ n. m < n) long c.in-Some.ensures.within in
    let small : m < types_most = omega (arith, within, few) in
    let less = c.without-rest.ensures in
    let column : c.joined_column-joined.result ≡ joined_column c.loop-middle.joined (normal_column (followed_column (column_at paths m) c.told_op.result) c.args.growing c.args.to) =
    c.joined_column-joined.ensures
    ∙ ap (joined_column c.loop-middle.joined)
    (c.normal_column.ensures
    ∙ ap (λ x. normal_column x c.args.growing c.args.to) (c.followed_column-path.ensures ∙ ap (λ x. followed_column x c.told_op.result) c.at.ensures)) in
    record {
      steps = AreIn-without rest c.args.steps.there m next less c.loop-middle.invariant.steps;
      joins =
          subst (JoinsPathsBut next c.args.growing paths steps c.args.to c.args.column)
          (sym (column ∙ ap (λ op. joined_column c.loop-middle.joined (normal_column (followed_column (column_at paths m) op) c.args.growing c.args.to)) c.told_op.ensures))
          (JoinsPathsBut-more rest next c.args.growing paths steps c.args.to c.args.column c.loop-middle.joined m c.ranges.growing.fits few within c.in-Some.ensures.here
          (c.loop-middle.invariant.steps m small c.in-Some.ensures.here) less.here less.others c.loop-middle.invariant.joins);
    }

pub loop-middle-smaller : goal.loop-middle-smaller
loop-middle-smaller c = IsWithout-lesser c.loop-middle.rest c.in-Some.middle c.without-rest.result c.in-Some.ensures.here c.without-rest.ensures

pub returns : goal.returns
returns c =
    JoinsPathsBut-all c.loop-middle.rest c.args.growing c.args.paths.now c.args.steps c.args.to c.args.column c.loop-middle.joined
    (subst (HasNone c.loop-middle.rest) c.count.ensures.count c.in_default.ensures) c.loop-middle.invariant.joins

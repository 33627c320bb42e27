use Rattle.std.proofs.Common.{◌≡◌, ◌+◌, length, ap, sym, subst, ◌∙◌, arith}
use Rattle.std.proofs.lemmas.List.{length-set}
use Rattle.sel_algebra.specs.Table.{kind_at, one_at}
use Rattle.query_draw.specs.Columns.{column_at, equal_column}
use Rattle.query_draw.specs.Products.{JoinsPaths}
use Rattle.query_draw.proofs.ColumnLemmas.{Tells-equal}
use Rattle.query_draw.proofs.ProductLemmas.{FirstPaths, FirstPaths-none, FirstPaths-more, FirstPaths-round}
use Rattle.query_draw.proofs.products.make_round.Goals as goal

pub loop-to-init : goal.loop-to-init
loop-to-init c = record {
  whole = c.requires.next;
  paths = FirstPaths-none one_at c.args.kinds.now c.args.step.now c.args.last.now c.args.next.now c.requires.next;
}

pub loop-to-preserved : goal.loop-to-preserved
loop-to-preserved c =
    let kinds = c.args.kinds.now in
    let step = c.args.step.now in
    let last = c.args.last.now in
    let to = c.loop-to.to in
    let old = c.loop-to.next in
    let column = c.join_paths-paths.result in
    let joins : JoinsPaths c.args.growing step (column_at last to) (kind_at kinds to) (equal_column to) column =
    subst (λ start. JoinsPaths c.args.growing step (column_at last to) (kind_at kinds to) start column) c.equal_column.ensures
    (subst (λ steps. JoinsPaths c.args.growing step steps (kind_at kinds to) c.equal_column.result column) c.at.ensures c.join_paths-paths.ensures) in
    record {
      whole = ap length c.put.ensures ∙ (length-set old to column ∙ c.loop-to.invariant.whole);
      paths =
          subst (λ cs. FirstPaths one_at kinds step last cs (to + 1)) (sym c.put.ensures)
          (FirstPaths-more one_at kinds c.args.growing step last old to (equal_column to) column c.requires.growing c.loop-to-test.true (λ i p. Tells-equal to i (omega (arith, c.loop-to-test.true, c.requires.few))) joins
          c.loop-to.invariant.paths);
    }

pub returns-clause-round : goal.returns-clause-round
returns-clause-round c =
    let kinds = c.args.kinds.now in
    let all : c.loop-to.to ≡ length kinds = omega (arith, c.loop-to-test.false, c.loop-to.auto.to-end) in
    FirstPaths-round kinds c.args.step.now c.args.last.now c.loop-to.next
    (subst (FirstPaths one_at kinds c.args.step.now c.args.last.now c.loop-to.next) all c.loop-to.invariant.paths)

use Rattle.std.proofs.Common.{◌≡◌, ◌+◌, length, ap, sym, subst, ◌∙◌, arith}
use Rattle.std.proofs.lemmas.List.{length-set}
use Rattle.sel_algebra.specs.Table.{kind_at}
use Rattle.query_draw.specs.Columns.{no_entry, column_at, no_column}
use Rattle.query_draw.specs.Products.{JoinsPaths}
use Rattle.query_draw.proofs.ColumnLemmas.{Tells-none}
use Rattle.query_draw.proofs.ProductLemmas.{FirstPaths, FirstPaths-none, FirstPaths-more, FirstPaths-product}
use Rattle.query_draw.proofs.products.multiply.Goals as goal

pub loop-to-init : goal.loop-to-init
loop-to-init c = record {
  whole = c.requires.product;
  paths = FirstPaths-none no_entry c.args.kinds.now c.args.first.now c.args.second.now c.args.product.now c.requires.product;
}

pub loop-to-preserved : goal.loop-to-preserved
loop-to-preserved c =
    let kinds = c.args.kinds.now in
    let first = c.args.first.now in
    let second = c.args.second.now in
    let to = c.loop-to.to in
    let old = c.loop-to.product in
    let column = c.join_paths-paths.result in
    let joins : JoinsPaths c.args.growing first (column_at second to) (kind_at kinds to) no_column column =
    subst (λ start. JoinsPaths c.args.growing first (column_at second to) (kind_at kinds to) start column) c.no_column.ensures
    (subst (λ steps. JoinsPaths c.args.growing first steps (kind_at kinds to) c.no_column.result column) c.at.ensures c.join_paths-paths.ensures) in
    record {
      whole = ap length c.put.ensures ∙ (length-set old to column ∙ c.loop-to.invariant.whole);
      paths =
          subst (λ cs. FirstPaths no_entry kinds first second cs (to + 1)) (sym c.put.ensures)
          (FirstPaths-more no_entry kinds c.args.growing first second old to no_column column c.requires.growing c.loop-to-test.true (λ i p. Tells-none i) joins c.loop-to.invariant.paths);
    }

pub returns-clause-product : goal.returns-clause-product
returns-clause-product c =
    let kinds = c.args.kinds.now in
    let all : c.loop-to.to ≡ length kinds = omega (arith, c.loop-to-test.false, c.loop-to.auto.to-end) in
    FirstPaths-product kinds c.args.first.now c.args.second.now c.loop-to.product
    (subst (FirstPaths no_entry kinds c.args.first.now c.args.second.now c.loop-to.product) all c.loop-to.invariant.paths)

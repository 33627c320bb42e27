use Rattle.std.proofs.Common.{◌≡◌, suc, ◌+◌, Some, slice_get, option_map, [], ◌∷◌, ◌++◌, map, take, sym, ap, subst, ◌∙◌, arith}
use Rattle.std.specs.List.{insert}
use Rattle.std.proofs.lemmas.Option.{slice_get-map}
use Rattle.sql_read.specs.Conditions.{edge_header, headers_after}
use Rattle.sql_read.specs.Kept.{TableFits, cut, table_in}
use Rattle.sql_read.specs.View.{name_view}
use Rattle.sql_read.specs.Whole.{reading_of}
use Rattle.sql_mean.specs.Rows.{edge_row, AtFirst}
use Rattle.sql_mean.specs.Tables.{After}
use Rattle.sql_mean.specs.Evaluation.{KnownAs, so_far}
use Rattle.sql_mean.proofs.LoopLemmas.{fit_at}
use Rattle.sql_mean.proofs.AllLemmas.{edge_known, known_first, known_next}
use Rattle.sql_mean.proofs.tables.all_tables.Goals as goal

pub loop-i-init : goal.loop-i-init
loop-i-init c =
    let rows = c.in_ok-edges.ensures ∙ ap (map edge_row) c.as_slice.ensures in
    let known : c.push.new.self.items ≡ edge_known c.in_ok-edges.edges.items ∷ [] = c.in_ok-push.ensures.items ∙ (λ i. c.new-known.ensures.items i ++ c.new.ensures i ∷ []) in
    subst (λ known. KnownAs known (edge_header ∷ []) (AtFirst c.args.graph.now)) (sym (known ∙ ap (λ rs. edge_known rs ∷ []) rows)) (known_first c.args.graph.now)

pub table_rows-requires : goal.table_rows-requires
table_rows-requires c =
    fit_at (λ t. TableFits t c.args.query.now.kept) c.args.query.now.kept.tables c.loop-i.i c.table-table.result c.requires.fits.tables c.table-table.ensures

pub cut-columns-requires : goal.cut-columns-requires
cut-columns-requires c =
    let fits = fit_at (λ t. TableFits t c.args.query.now.kept) c.args.query.now.kept.tables c.loop-i.i c.table-table.result c.requires.fits.tables c.table-table.ensures in
    rw c.names.ensures fits.names

pub loop-i-preserved : goal.loop-i-preserved
loop-i-preserved c =
    let tables = (reading_of c.args.query.now).tables in
    let t = table_in c.table-table.result c.args.query.now.kept in
    let at : slice_get tables c.loop-i.i ≡ Some t =
    slice_get-map (λ t. table_in t c.args.query.now.kept) c.args.query.now.kept.tables c.loop-i.i ∙ ap (option_map (λ t. table_in t c.args.query.now.kept)) c.table-table.ensures in
    let count : suc c.loop-i.i ≡ c.loop-i.i + 1 = omega arith in
    let more = known_next tables c.loop-i.i t (edge_header ∷ []) (AtFirst c.args.graph.now) c.loop-i.known.items c.in_ok-rows.rows.items at c.loop-i.invariant c.in_ok-rows.ensures.rows in
    let columns : map name_view c.cut-columns.result.now ≡ t.columns = ap (map name_view) (c.cut-columns.ensures ∙ ap (λ ns. cut ns c.table-table.result.columns) c.names.ensures) in
    let known : c.insert.new.self.items ≡ so_far t c.in_ok-rows.rows.items ∷ c.loop-i.known.items =
    c.in_ok-insert.ensures.items ∙ (λ i. insert (c.in_ok-rows.ensures.known i) 0 (c.new-in-loop-i.ensures i))
    ∙ ap (λ cs. record { name = t.name; columns = cs; rows = c.in_ok-rows.rows.items } ∷ c.loop-i.known.items) columns in
    subst (λ known. KnownAs known (headers_after (edge_header ∷ []) (take (c.loop-i.i + 1) tables)) (After (edge_header ∷ []) (AtFirst c.args.graph.now) (take (c.loop-i.i + 1) tables)))
    (sym known)
    (subst (λ n. KnownAs (so_far t c.in_ok-rows.rows.items ∷ c.loop-i.known.items) (headers_after (edge_header ∷ []) (take n tables)) (After (edge_header ∷ []) (AtFirst c.args.graph.now) (take n tables))) count more)

use Rattle.std.proofs.Common.{[], ◌∷◌}
use Rattle.gm_files.specs.declared.texts.QueryFile.TheVariants.{Sparql, Sql}
use Rattle.query_terms.specs.View.{query_value}
use Rattle.gm_top.specs.Outputs.{query_file}
use Rattle.gm_top.proofs.GraphLemmas.{OnErr-all}
use Rattle.gm_top.proofs.OutputLemmas.{MakesFiles-append, MakesPart-append, MakesPart-longer, TakesCalls-append, TakesCallsWithin-append, TakesCallsWithin-longer}
use Rattle.gm_top.proofs.QueryLemmas.{query-file}
use Rattle.gm_top.proofs.query_files.write_query.Goals as goal

pub returns-in_err-write_text-clause-part : goal.returns-in_err-write_text-clause-part
returns-in_err-write_text-clause-part g c =
    let names = c.args.head.now.labels in
    let n = c.args.number in
    let q = query_value c.args.query.now in
    OnErr-all c.from_residual.result _ (MakesPart-longer (query_file Sparql names n q ∷ []) (query_file Sql names n q ∷ []) _ _ c.in_err-write_text.ensures.part (query-file Sql names n q))

pub returns-in_err-write_text-clause-part_calls : goal.returns-in_err-write_text-clause-part_calls
returns-in_err-write_text-clause-part_calls g c =
    let names = c.args.head.now.labels in
    let n = c.args.number in
    let q = query_value c.args.query.now in
    OnErr-all c.from_residual.result _
    (TakesCallsWithin-longer (query_file Sparql names n q ∷ []) (query_file Sql names n q ∷ []) _ _ c.in_err-write_text.ensures.part_calls (query-file Sql names n q))

pub returns-in_err-write_text-2-clause-part : goal.returns-in_err-write_text-2-clause-part
returns-in_err-write_text-2-clause-part g c =
    let names = c.args.head.now.labels in
    let n = c.args.number in
    let q = query_value c.args.query.now in
    OnErr-all c.from_residual-in_err-write_text-2.result _
    (MakesPart-append (query_file Sparql names n q ∷ []) (query_file Sql names n q ∷ []) _ _ _ c.in_ok-write_text.ensures.files c.in_err-write_text-2.ensures.part)

pub returns-in_err-write_text-2-clause-part_calls : goal.returns-in_err-write_text-2-clause-part_calls
returns-in_err-write_text-2-clause-part_calls g c =
    let names = c.args.head.now.labels in
    let n = c.args.number in
    let q = query_value c.args.query.now in
    OnErr-all c.from_residual-in_err-write_text-2.result _
    (TakesCallsWithin-append (query_file Sparql names n q ∷ []) (query_file Sql names n q ∷ []) _ _ _ c.in_ok-write_text.ensures.calls c.in_err-write_text-2.ensures.part_calls)

pub returns-clause-files : goal.returns-clause-files
returns-clause-files g c =
    let names = c.args.head.now.labels in
    let n = c.args.number in
    let q = query_value c.args.query.now in
    MakesFiles-append (query_file Sparql names n q ∷ []) (query_file Sql names n q ∷ []) _ _ _ c.in_ok-write_text.ensures.files c.in_ok-write_text-2.ensures.files

pub returns-clause-calls : goal.returns-clause-calls
returns-clause-calls g c =
    let names = c.args.head.now.labels in
    let n = c.args.number in
    let q = query_value c.args.query.now in
    TakesCalls-append (query_file Sparql names n q ∷ []) (query_file Sql names n q ∷ []) _ _ _ c.in_ok-write_text.ensures.calls c.in_ok-write_text-2.ensures.calls

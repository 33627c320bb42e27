use Rattle.std.proofs.Common.{◌∙◌, [], ◌∷◌}
use Rattle.query_terms.specs.View.{query_value}
use Rattle.gm_top.specs.Outputs.{query_file}
use Rattle.gm_top.proofs.PutLemmas.{KeepsFiles-same}
use Rattle.gm_top.proofs.GraphLemmas.{OnErr-all}
use Rattle.gm_top.proofs.OutputLemmas.{MakesPart-none, TakesCalls-one, TakesCallsWithin-one, TakesCallsWithin-none}
use Rattle.gm_top.proofs.QueryLemmas.{query-file}
use Rattle.gm_top.proofs.query_files.write_text.Goals as goal

pub returns-in_err-text-clause-part : goal.returns-in_err-text-clause-part
returns-in_err-text-clause-part g c =
    let names = c.args.head.now.labels in
    let q = query_value c.args.query.now in
    OnErr-all c.from_residual.result _ (MakesPart-none (query_file c.args.kind names c.args.number q ∷ []) _ _ (query-file c.args.kind names c.args.number q) (KeepsFiles-same _))

pub returns-in_err-name-clause-part : goal.returns-in_err-name-clause-part
returns-in_err-name-clause-part g c =
    let names = c.args.head.now.labels in
    let q = query_value c.args.query.now in
    OnErr-all c.from_residual-in_err-name.result _ (MakesPart-none (query_file c.args.kind names c.args.number q ∷ []) _ _ (query-file c.args.kind names c.args.number q) (KeepsFiles-same _))

pub returns-in_err-text-clause-part_calls : goal.returns-in_err-text-clause-part_calls
returns-in_err-text-clause-part_calls g c =
    let names = c.args.head.now.labels in
    let q = query_value c.args.query.now in
    OnErr-all c.from_residual.result _ (TakesCallsWithin-none (query_file c.args.kind names c.args.number q ∷ []) _ (query-file c.args.kind names c.args.number q))

pub returns-in_err-name-clause-part_calls : goal.returns-in_err-name-clause-part_calls
returns-in_err-name-clause-part_calls g c =
    let names = c.args.head.now.labels in
    let q = query_value c.args.query.now in
    OnErr-all c.from_residual-in_err-name.result _ (TakesCallsWithin-none (query_file c.args.kind names c.args.number q ∷ []) _ (query-file c.args.kind names c.args.number q))

pub returns-in_err-put_file-clause-part_calls : goal.returns-in_err-put_file-clause-part_calls
returns-in_err-put_file-clause-part_calls g c =
    let names = c.args.head.now.labels in
    let q = query_value c.args.query.now in
    let text = c.deref-2.ensures.value ∙ c.in_ok-text.ensures in
    OnErr-all c.from_residual-in_err-put_file.result _ (TakesCallsWithin-one (query_file c.args.kind names c.args.number q) _ _ _ text c.in_err-put_file.ensures.calls_within)

pub returns-clause-calls : goal.returns-clause-calls
returns-clause-calls g c =
    let names = c.args.head.now.labels in
    let q = query_value c.args.query.now in
    let text = c.deref-2.ensures.value ∙ c.in_ok-text.ensures in
    TakesCalls-one (query_file c.args.kind names c.args.number q) _ _ _ text c.in_ok-put_file.ensures.calls

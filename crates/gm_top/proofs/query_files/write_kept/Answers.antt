use Rattle.std.proofs.Common.{subst, sym}
use Rattle.std.proofs.lemmas.Result.{on_ok_weaker, on_err_weaker}
use Rattle.query_terms.specs.Values.{QueryValue}
use Rattle.workload_text.specs.Values.{IsQuery}
use Rattle.gm_top.specs.Outputs.{pair_of, MakesFiles, MakesPart, TakesCalls, TakesCallsWithin}
use Rattle.gm_top.proofs.GraphLemmas.{OnErr-all}
use Rattle.gm_top.proofs.PutLemmas.{KeepsFiles-same}
use Rattle.gm_top.proofs.OutputLemmas.{MakesPart-none, TakesCallsWithin-none}
use Rattle.gm_top.proofs.QueryLemmas.{pair-files}
use Rattle.gm_top.proofs.query_files.write_kept.Goals as goal

pub returns-in_err-query-clause-part : goal.returns-in_err-query-clause-part
returns-in_err-query-clause-part g c =
    let names = c.args.head.now.labels in
    OnErr-all c.from_residual.result _ (MakesPart-none (pair_of names c.args.number c.args.outline.now) _ _ (pair-files names c.args.number c.args.outline.now) (KeepsFiles-same _))

pub returns-in_err-query-clause-part_calls : goal.returns-in_err-query-clause-part_calls
returns-in_err-query-clause-part_calls g c =
    let names = c.args.head.now.labels in
    OnErr-all c.from_residual.result _ (TakesCallsWithin-none (pair_of names c.args.number c.args.outline.now) _ (pair-files names c.args.number c.args.outline.now))

pub write_query-requires-clause-kept : goal.write_query-requires-clause-kept
write_query-requires-clause-kept g c = subst (λ (q : QueryValue). IsQuery c.args.head.now q) (sym c.in_ok-query.ensures) c.requires.kept

pub returns-clause-files : goal.returns-clause-files
returns-clause-files g c =
    let names = c.args.head.now.labels in
    let before = g.F.Folder.files c.args.folder.now in
    let after = g.F.Folder.files c.write_query.new.folder in
    on_ok_weaker c.write_query.result (subst (λ (q : QueryValue). MakesFiles (pair_of names c.args.number q) before after) c.in_ok-query.ensures) c.write_query.ensures.files

pub returns-clause-part : goal.returns-clause-part
returns-clause-part g c =
    let names = c.args.head.now.labels in
    let before = g.F.Folder.files c.args.folder.now in
    let after = g.F.Folder.files c.write_query.new.folder in
    on_err_weaker c.write_query.result (subst (λ (q : QueryValue). MakesPart (pair_of names c.args.number q) before after) c.in_ok-query.ensures) c.write_query.ensures.part

pub returns-clause-calls : goal.returns-clause-calls
returns-clause-calls g c =
    let names = c.args.head.now.labels in
    let before = g.F.Folder.calls c.args.folder.now in
    let after = g.F.Folder.calls c.write_query.new.folder in
    on_ok_weaker c.write_query.result (subst (λ (q : QueryValue). TakesCalls (pair_of names c.args.number q) before after) c.in_ok-query.ensures) c.write_query.ensures.calls

pub returns-clause-part_calls : goal.returns-clause-part_calls
returns-clause-part_calls g c =
    let names = c.args.head.now.labels in
    let before = g.F.Folder.calls c.args.folder.now in
    let after = g.F.Folder.calls c.write_query.new.folder in
    on_err_weaker c.write_query.result (subst (λ (q : QueryValue). TakesCallsWithin (pair_of names c.args.number q) before after) c.in_ok-query.ensures) c.write_query.ensures.part_calls

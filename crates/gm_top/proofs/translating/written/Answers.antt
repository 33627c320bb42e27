use Rattle.std.proofs.Common.{refl, arith, rules}
use Rattle.query_terms.specs.View.{query_value}
use Rattle.gm_top.specs.Outputs.{MakesFiles, MakesPart, TakesCalls, TakesCallsWithin}
use Rattle.gm_top.proofs.GraphLemmas.{OnErr-all}
use Rattle.gm_top.proofs.OutputLemmas.{MakesFiles-none, TakesCalls-none}
use Rattle.query_texts.proofs.RuleLemmas.{query-keeps}
use Rattle.gm_top.proofs.QueryLemmas.{under-head, files-more, part-more, calls-more, part_calls-more, files-all, calls-all}
use Rattle.gm_top.proofs.translating.written.Goals as goal

pub loop-number-init : goal.loop-number-init
loop-number-init g c = record { files = MakesFiles-none _; calls = TakesCalls-none _; finished = c.requires; no_fault = refl }

pub write_query-requires-clause-kept : goal.write_query-requires-clause-kept
write_query-requires-clause-kept g c =
    query-keeps c.args.work.now c.head-head.result.now c.loop-number.number (query_value c.query.result.now) c.query.ensures.work c.head-head.ensures.head c.query.ensures.query

pub loop-number-preserved : goal.loop-number-preserved
loop-number-preserved g c =
    let v = c.args.work.now in
    let n = c.loop-number.number in
    let q = query_value c.query.result.now in
    let own = under-head (λ outputs. MakesFiles outputs (g.F.Folder.files c.loop-number.folder) (g.F.Folder.files c.write_query.new.folder)) c.head-head.result.now v.head n q c.head-head.ensures.head
    c.in_ok-write_query.ensures.files in
    let calls = under-head (λ outputs. TakesCalls outputs (g.F.Folder.calls c.loop-number.folder) (g.F.Folder.calls c.write_query.new.folder)) c.head-head.result.now v.head n q c.head-head.ensures.head
    c.in_ok-write_query.ensures.calls in record {
      files = files-more v.head.labels v.queries n q c.query.ensures.query _ _ _ c.loop-number.invariant.files own;
      calls = calls-more v.head.labels v.queries n q c.query.ensures.query _ _ _ c.loop-number.invariant.calls calls;
      finished = search rules;
      no_fault = search rules;
    }

pub returns-in_err-write_query-clause-part : goal.returns-in_err-write_query-clause-part
returns-in_err-write_query-clause-part g c =
    let v = c.args.work.now in
    let n = c.loop-number.number in
    let q = query_value c.query.result.now in
    let own = under-head (λ outputs. MakesPart outputs (g.F.Folder.files c.loop-number.folder) (g.F.Folder.files c.write_query.new.folder)) c.head-head.result.now v.head n q c.head-head.ensures.head
    c.in_err-write_query.ensures.part in
    OnErr-all c.from_residual.result _ (part-more v.head.labels v.queries n q c.query.ensures.query _ _ _ c.loop-number.invariant.files own)

pub returns-in_err-write_query-clause-part_calls : goal.returns-in_err-write_query-clause-part_calls
returns-in_err-write_query-clause-part_calls g c =
    let v = c.args.work.now in
    let n = c.loop-number.number in
    let q = query_value c.query.result.now in
    let own = under-head (λ outputs. TakesCallsWithin outputs (g.F.Folder.calls c.loop-number.folder) (g.F.Folder.calls c.write_query.new.folder)) c.head-head.result.now v.head n q c.head-head.ensures.head
    c.in_err-write_query.ensures.part_calls in
    OnErr-all c.from_residual.result _ (part_calls-more v.head.labels v.queries n q c.query.ensures.query _ _ _ c.loop-number.invariant.calls own)

pub returns-clause-files : goal.returns-clause-files
returns-clause-files g c =
    let v = c.args.work.now in
    files-all v.head.labels v.queries c.loop-number.number (omega (arith, c.count-number-end.ensures.count)) _ _ c.loop-number.invariant.files

pub returns-clause-calls : goal.returns-clause-calls
returns-clause-calls g c =
    let v = c.args.work.now in
    calls-all v.head.labels v.queries c.loop-number.number (omega (arith, c.count-number-end.ensures.count)) _ _ c.loop-number.invariant.calls

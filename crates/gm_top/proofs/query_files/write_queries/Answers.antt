use Rattle.std.proofs.Common.{◌≡◌, ◌∙◌, ◌<◌, List, length, subst, sym, ap, refl, arith, rules}
use Rattle.query_terms.specs.Values.{QueryValue}
use Rattle.workload_text.specs.Head.{head_of}
use Rattle.query_texts.proofs.RuleLemmas.{query-keeps}
use Rattle.gm_top.specs.Workload.{workload_of}
use Rattle.gm_top.specs.Outputs.{work_outputs, MakesFiles, MakesPart, TakesCalls, TakesCallsWithin}
use Rattle.gm_top.proofs.GraphLemmas.{OnErr-all}
use Rattle.gm_top.proofs.PutLemmas.{KeepsFiles-same}
use Rattle.gm_top.proofs.KeptLemmas.{workload-kept}
use Rattle.gm_top.proofs.OutputLemmas.{MakesFiles-none, MakesPart-none, TakesCalls-none, TakesCallsWithin-none}
use Rattle.gm_top.proofs.QueryLemmas.{under-head, queries-files, files-more, part-more, calls-more, part_calls-more, files-all, calls-all, drawn-count}
use Rattle.gm_top.proofs.query_files.write_queries.Goals as goal

pub returns-in_err-head-clause-part : goal.returns-in_err-head-clause-part
returns-in_err-head-clause-part g c =
    let own = c.args.generation.now in
    let v = workload_of own.config own.seed in
    OnErr-all c.from_residual.result _ (MakesPart-none (work_outputs v) _ _ (queries-files v.head.labels 0 v.queries) (KeepsFiles-same _))

pub returns-in_err-head-clause-part_calls : goal.returns-in_err-head-clause-part_calls
returns-in_err-head-clause-part_calls g c =
    let own = c.args.generation.now in
    let v = workload_of own.config own.seed in
    OnErr-all c.from_residual.result _ (TakesCallsWithin-none (work_outputs v) _ (queries-files v.head.labels 0 v.queries))

pub loop-number-init : goal.loop-number-init
loop-number-init g c = record { files = MakesFiles-none _; calls = TakesCalls-none _; finished = c.requires.finished; no_fault = refl }

pub at-requires : goal.at-requires
at-requires g c =
    let own = c.args.generation.now in
    let long = drawn-count own.config own.seed in
    subst (λ (queries : List QueryValue). c.loop-number.number < length queries) (sym c.requires.kept) (omega (arith, long, c.loop-number-test.true, c.query_count-number-end.ensures))

pub write_kept-requires-clause-kept : goal.write_kept-requires-clause-kept
write_kept-requires-clause-kept g c =
    let own = c.args.generation.now in
    let n = c.loop-number.number in
    let q = c.at.result.now in
    let there = rw c.requires.kept at c.at.ensures in
    query-keeps (workload_of own.config own.seed) c.in_ok-head.head n q (workload-kept own.config own.seed c.requires.accepted.rules c.requires.accepted.queries) (c.in_ok-head.ensures.value ∙ ap head_of c.config.ensures) there

pub loop-number-preserved : goal.loop-number-preserved
loop-number-preserved g c =
    let own = c.args.generation.now in
    let v = workload_of own.config own.seed in
    let n = c.loop-number.number in
    let q = c.at.result.now in
    let there = rw c.requires.kept at c.at.ensures in
    let files = under-head (λ outputs. MakesFiles outputs (g.F.Folder.files c.loop-number.folder) (g.F.Folder.files c.write_kept.new.folder)) c.in_ok-head.head v.head n q (c.in_ok-head.ensures.value ∙ ap head_of c.config.ensures)
    c.in_ok-write_kept.ensures.files in
    let calls = under-head (λ outputs. TakesCalls outputs (g.F.Folder.calls c.loop-number.folder) (g.F.Folder.calls c.write_kept.new.folder)) c.in_ok-head.head v.head n q (c.in_ok-head.ensures.value ∙ ap head_of c.config.ensures)
    c.in_ok-write_kept.ensures.calls in record {
      files = files-more v.head.labels v.queries n q there _ _ _ c.loop-number.invariant.files files;
      calls = calls-more v.head.labels v.queries n q there _ _ _ c.loop-number.invariant.calls calls;
      finished = search rules;
      no_fault = search rules;
    }

pub returns-in_err-write_kept-clause-part : goal.returns-in_err-write_kept-clause-part
returns-in_err-write_kept-clause-part g c =
    let own = c.args.generation.now in
    let v = workload_of own.config own.seed in
    let n = c.loop-number.number in
    let q = c.at.result.now in
    let there = rw c.requires.kept at c.at.ensures in
    let part = under-head (λ outputs. MakesPart outputs (g.F.Folder.files c.loop-number.folder) (g.F.Folder.files c.write_kept.new.folder)) c.in_ok-head.head v.head n q (c.in_ok-head.ensures.value ∙ ap head_of c.config.ensures)
    c.in_err-write_kept.ensures.part in
    OnErr-all c.from_residual-in_err-write_kept.result _ (part-more v.head.labels v.queries n q there _ _ _ c.loop-number.invariant.files part)

pub returns-in_err-write_kept-clause-part_calls : goal.returns-in_err-write_kept-clause-part_calls
returns-in_err-write_kept-clause-part_calls g c =
    let own = c.args.generation.now in
    let v = workload_of own.config own.seed in
    let n = c.loop-number.number in
    let q = c.at.result.now in
    let there = rw c.requires.kept at c.at.ensures in
    let part = under-head (λ outputs. TakesCallsWithin outputs (g.F.Folder.calls c.loop-number.folder) (g.F.Folder.calls c.write_kept.new.folder)) c.in_ok-head.head v.head n q (c.in_ok-head.ensures.value ∙ ap head_of c.config.ensures)
    c.in_err-write_kept.ensures.part_calls in
    OnErr-all c.from_residual-in_err-write_kept.result _ (part_calls-more v.head.labels v.queries n q there _ _ _ c.loop-number.invariant.calls part)

pub returns-clause-files : goal.returns-clause-files
returns-clause-files g c =
    let own = c.args.generation.now in
    let v = workload_of own.config own.seed in
    let all : c.loop-number.number ≡ length v.queries = omega (arith, c.query_count-number-end.ensures, drawn-count own.config own.seed) in
    files-all v.head.labels v.queries c.loop-number.number all _ _ c.loop-number.invariant.files

pub returns-clause-calls : goal.returns-clause-calls
returns-clause-calls g c =
    let own = c.args.generation.now in
    let v = workload_of own.config own.seed in
    let all : c.loop-number.number ≡ length v.queries = omega (arith, c.query_count-number-end.ensures, drawn-count own.config own.seed) in
    calls-all v.head.labels v.queries c.loop-number.number all _ _ c.loop-number.invariant.calls

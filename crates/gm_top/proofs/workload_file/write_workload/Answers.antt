use Rattle.std.proofs.Common.{◌∙◌, [], ◌∷◌, refl, sym, append-nil, arith}
use Rattle.gm_files.proofs.Gains.{Gained-nil, Gained-append, GainedPart-all}
use Rattle.workload_text.specs.Lines.{work_text}
use Rattle.gm_top.specs.Outputs.{workload, name_of}
use Rattle.gm_top.specs.Workload.{workload_of}
use Rattle.gm_top.proofs.PutLemmas.{KeepsFiles-same, PutSoFar-created, PutSoFar-whole, PutSoFar-failed, PutSoFar-flushed, PutSoFar-unflushed}
use Rattle.gm_top.proofs.GraphLemmas.{OnErr-all}
use Rattle.gm_top.proofs.OutputLemmas.{MakesPart-none, MakesFiles-one, TakesCalls-one, TakesCallsWithin-none, TakesCallsWithin-one}
use Rattle.gm_top.proofs.WorkloadLemmas.{workload-files, workload-part}
use Rattle.gm_top.proofs.workload_file.write_workload.Goals as goal

-- ---- before the file is there

pub returns-in_err-head-clause-part : goal.returns-in_err-head-clause-part
returns-in_err-head-clause-part g c =
    let own = c.args.generation.now in
    OnErr-all c.from_residual.result _ (MakesPart-none (workload own.config own.seed ∷ []) _ _ (workload-files own.config own.seed) (KeepsFiles-same _))

pub returns-in_err-head-clause-part_calls : goal.returns-in_err-head-clause-part_calls
returns-in_err-head-clause-part_calls g c =
    let own = c.args.generation.now in
    OnErr-all c.from_residual.result _ (TakesCallsWithin-none (workload own.config own.seed ∷ []) _ (workload-files own.config own.seed))

pub returns-in_err-end-clause-part : goal.returns-in_err-end-clause-part
returns-in_err-end-clause-part g c =
    let own = c.args.generation.now in
    OnErr-all c.from_residual-in_err-end.result _ (MakesPart-none (workload own.config own.seed ∷ []) _ _ (workload-files own.config own.seed) (KeepsFiles-same _))

pub returns-in_err-end-clause-part_calls : goal.returns-in_err-end-clause-part_calls
returns-in_err-end-clause-part_calls g c =
    let own = c.args.generation.now in
    OnErr-all c.from_residual-in_err-end.result _ (TakesCallsWithin-none (workload own.config own.seed ∷ []) _ (workload-files own.config own.seed))

pub returns-in_err-create-clause-part : goal.returns-in_err-create-clause-part
returns-in_err-create-clause-part g c =
    let own = c.args.generation.now in
    OnErr-all c.from_residual-in_err-create.result _ (MakesPart-none (workload own.config own.seed ∷ []) _ _ (workload-files own.config own.seed) c.in_err-create.ensures.files)

pub returns-in_err-create-clause-part_calls : goal.returns-in_err-create-clause-part_calls
returns-in_err-create-clause-part_calls g c =
    let own = c.args.generation.now in
    OnErr-all c.from_residual-in_err-create.result _
    (TakesCallsWithin-one (workload own.config own.seed) (work_text (workload_of own.config own.seed)) _ _ refl (omega (arith, c.in_err-create.ensures.calls)))

-- ---- its text

pub put_workload-requires-clause-head : goal.put_workload-requires-clause-head
put_workload-requires-clause-head g c = c.deref.ensures.value ∙ c.in_ok-head.ensures

pub put_workload-requires-clause-end : goal.put_workload-requires-clause-end
put_workload-requires-clause-end g c = c.deref-2.ensures.value ∙ c.in_ok-end.ensures

pub returns-in_err-put_workload-clause-part : goal.returns-in_err-put_workload-clause-part
returns-in_err-put_workload-clause-part g c =
    let own = c.args.generation.now in
    let whole = work_text (workload_of own.config own.seed) in
    let created = PutSoFar-created _ _ _ _ (name_of (workload own.config own.seed)) _ c.in_ok-create.ensures.files c.in_ok-create.ensures.calls c.requires.empty in
    let failed = PutSoFar-failed _ _ _ _ _ _ _ _ [] whole [] whole created c.in_err-put_workload.ensures.part (sym (append-nil whole)) in
    OnErr-all c.from_residual-in_err-put_workload.result _ (workload-part own.config own.seed _ _ failed.0)

pub returns-in_err-put_workload-clause-part_calls : goal.returns-in_err-put_workload-clause-part_calls
returns-in_err-put_workload-clause-part_calls g c =
    let own = c.args.generation.now in
    let whole = work_text (workload_of own.config own.seed) in
    let created = PutSoFar-created _ _ _ _ (name_of (workload own.config own.seed)) _ c.in_ok-create.ensures.files c.in_ok-create.ensures.calls c.requires.empty in
    let failed = PutSoFar-failed _ _ _ _ _ _ _ _ [] whole [] whole created c.in_err-put_workload.ensures.part (sym (append-nil whole)) in
    OnErr-all c.from_residual-in_err-put_workload.result _ (TakesCallsWithin-one (workload own.config own.seed) whole _ _ refl failed.1)

pub returns-in_err-flush-clause-part : goal.returns-in_err-flush-clause-part
returns-in_err-flush-clause-part g c =
    let own = c.args.generation.now in
    let whole = work_text (workload_of own.config own.seed) in
    let put = PutSoFar-whole _ _ _ _ _ _ _ _ _ whole c.in_ok-create.ensures.files c.in_ok-create.ensures.calls c.requires.empty c.in_ok-put_workload.ensures.put in
    let failed = PutSoFar-unflushed _ _ _ _ _ _ _ _ whole put c.in_err-flush.ensures.files c.in_err-flush.ensures.calls in
    OnErr-all c.from_residual-in_err-flush.result _ (workload-part own.config own.seed _ _ failed.0)

pub returns-in_err-flush-clause-part_calls : goal.returns-in_err-flush-clause-part_calls
returns-in_err-flush-clause-part_calls g c =
    let own = c.args.generation.now in
    let whole = work_text (workload_of own.config own.seed) in
    let put = PutSoFar-whole _ _ _ _ _ _ _ _ _ whole c.in_ok-create.ensures.files c.in_ok-create.ensures.calls c.requires.empty c.in_ok-put_workload.ensures.put in
    let failed = PutSoFar-unflushed _ _ _ _ _ _ _ _ whole put c.in_err-flush.ensures.files c.in_err-flush.ensures.calls in
    OnErr-all c.from_residual-in_err-flush.result _ (TakesCallsWithin-one (workload own.config own.seed) whole _ _ refl failed.1)

-- ---- what was made

pub returns-in_err-finish-clause-part : goal.returns-in_err-finish-clause-part
returns-in_err-finish-clause-part g c =
    let own = c.args.generation.now in
    let whole = work_text (workload_of own.config own.seed) in
    let put = PutSoFar-whole _ _ _ _ _ _ _ _ _ whole c.in_ok-create.ensures.files c.in_ok-create.ensures.calls c.requires.empty c.in_ok-put_workload.ensures.put in
    let flushed = PutSoFar-flushed _ _ _ _ _ _ _ _ whole put c.in_ok-flush.ensures.files c.in_ok-flush.ensures.calls in
    OnErr-all c.from_residual-in_err-finish.result _
    (workload-part own.config own.seed _ _ (GainedPart-all _ _ _ (Gained-append _ _ _ _ [] flushed.0 (Gained-nil _ _ c.in_err-finish.ensures.files))))

pub returns-in_err-finish-clause-part_calls : goal.returns-in_err-finish-clause-part_calls
returns-in_err-finish-clause-part_calls g c =
    let own = c.args.generation.now in
    let whole = work_text (workload_of own.config own.seed) in
    let put = PutSoFar-whole _ _ _ _ _ _ _ _ _ whole c.in_ok-create.ensures.files c.in_ok-create.ensures.calls c.requires.empty c.in_ok-put_workload.ensures.put in
    let flushed = PutSoFar-flushed _ _ _ _ _ _ _ _ whole put c.in_ok-flush.ensures.files c.in_ok-flush.ensures.calls in
    OnErr-all c.from_residual-in_err-finish.result _
    (TakesCallsWithin-one (workload own.config own.seed) whole _ _ refl (omega (arith, c.in_err-finish.ensures.calls, flushed.1)))

pub returns-clause-files : goal.returns-clause-files
returns-clause-files g c =
    let own = c.args.generation.now in
    let whole = work_text (workload_of own.config own.seed) in
    let put = PutSoFar-whole _ _ _ _ _ _ _ _ _ whole c.in_ok-create.ensures.files c.in_ok-create.ensures.calls c.requires.empty c.in_ok-put_workload.ensures.put in
    let flushed = PutSoFar-flushed _ _ _ _ _ _ _ _ whole put c.in_ok-flush.ensures.files c.in_ok-flush.ensures.calls in
    MakesFiles-one (workload own.config own.seed) whole _ _ refl (Gained-append _ _ _ _ [] flushed.0 (Gained-nil _ _ c.in_ok-finish.ensures.files))

pub returns-clause-calls : goal.returns-clause-calls
returns-clause-calls g c =
    let own = c.args.generation.now in
    let whole = work_text (workload_of own.config own.seed) in
    let put = PutSoFar-whole _ _ _ _ _ _ _ _ _ whole c.in_ok-create.ensures.files c.in_ok-create.ensures.calls c.requires.empty c.in_ok-put_workload.ensures.put in
    let flushed = PutSoFar-flushed _ _ _ _ _ _ _ _ whole put c.in_ok-flush.ensures.files c.in_ok-flush.ensures.calls in
    TakesCalls-one (workload own.config own.seed) whole _ _ refl (omega (arith, c.in_ok-finish.ensures.calls, flushed.1))

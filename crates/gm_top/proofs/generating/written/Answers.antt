use Rattle.std.proofs.Common.{[], ◌∷◌}
use Rattle.gm_top.specs.declared.work.Work.TheVariants.{Files}
use Rattle.gm_top.specs.Workload.{queries_of, workload_of}
use Rattle.gm_top.specs.Outputs.{graph, workload, work_outputs, outputs_of}
use Rattle.gm_top.proofs.PutLemmas.{KeepsFiles-same}
use Rattle.gm_top.proofs.GraphLemmas.{OnErr-all}
use Rattle.gm_top.proofs.OutputLemmas.{MakesFiles-append, MakesPart-append, MakesPart-longer, MakesPart-none}
use Rattle.gm_top.proofs.OutputLemmas.{TakesCalls-append, TakesCallsWithin-append, TakesCallsWithin-longer, TakesCallsWithin-none}
use Rattle.gm_top.proofs.LawLemmas.{AreFilesOf-some, outputs-accepted}
use Rattle.gm_top.proofs.QueryLemmas.{queries-files, later-files}
use Rattle.gm_top.proofs.generating.written.Goals as goal

pub returns-in_err-pieces-clause-part : goal.returns-in_err-pieces-clause-part
returns-in_err-pieces-clause-part g c =
    let work = Files c.args.generation.now in
    OnErr-all c.from_residual.result _ (MakesPart-none (outputs_of work) _ _ (AreFilesOf-some (outputs_of work) (outputs-accepted work c.requires.accepted)) (KeepsFiles-same _))

pub returns-in_err-pieces-clause-part_calls : goal.returns-in_err-pieces-clause-part_calls
returns-in_err-pieces-clause-part_calls g c =
    let work = Files c.args.generation.now in
    OnErr-all c.from_residual.result _ (TakesCallsWithin-none (outputs_of work) _ (AreFilesOf-some (outputs_of work) (outputs-accepted work c.requires.accepted)))

pub returns-in_err-write_graph-clause-part : goal.returns-in_err-write_graph-clause-part
returns-in_err-write_graph-clause-part g c =
    let own = c.args.generation.now in
    let part = rw (c.config.ensures, c.seed.ensures) at c.in_err-write_graph.ensures.part in
    OnErr-all c.from_residual-in_err-write_graph.result _
    (MakesPart-longer (graph own.config own.seed ∷ []) (workload own.config own.seed ∷ work_outputs (workload_of own.config own.seed)) _ _ part (later-files own.config own.seed))

pub returns-in_err-write_graph-clause-part_calls : goal.returns-in_err-write_graph-clause-part_calls
returns-in_err-write_graph-clause-part_calls g c =
    let own = c.args.generation.now in
    let part = rw (c.config.ensures, c.seed.ensures) at c.in_err-write_graph.ensures.part_calls in
    OnErr-all c.from_residual-in_err-write_graph.result _
    (TakesCallsWithin-longer (graph own.config own.seed ∷ []) (workload own.config own.seed ∷ work_outputs (workload_of own.config own.seed)) _ _ part (later-files own.config own.seed))

pub returns-in_err-write_workload-clause-part : goal.returns-in_err-write_workload-clause-part
returns-in_err-write_workload-clause-part g c =
    let own = c.args.generation.now in
    let files = rw (c.config.ensures, c.seed.ensures) at c.in_ok-write_graph.ensures.files in
    OnErr-all c.from_residual-in_err-write_workload.result _
    (MakesPart-longer (graph own.config own.seed ∷ workload own.config own.seed ∷ []) (work_outputs (workload_of own.config own.seed)) _ _
    (MakesPart-append (graph own.config own.seed ∷ []) (workload own.config own.seed ∷ []) _ _ _ files c.in_err-write_workload.ensures.part)
    (queries-files own.config.labels 0 (queries_of own.config own.seed)))

pub returns-in_err-write_workload-clause-part_calls : goal.returns-in_err-write_workload-clause-part_calls
returns-in_err-write_workload-clause-part_calls g c =
    let own = c.args.generation.now in
    let calls = rw (c.config.ensures, c.seed.ensures) at c.in_ok-write_graph.ensures.calls in
    OnErr-all c.from_residual-in_err-write_workload.result _
    (TakesCallsWithin-longer (graph own.config own.seed ∷ workload own.config own.seed ∷ []) (work_outputs (workload_of own.config own.seed)) _ _
    (TakesCallsWithin-append (graph own.config own.seed ∷ []) (workload own.config own.seed ∷ []) _ _ _ calls c.in_err-write_workload.ensures.part_calls)
    (queries-files own.config.labels 0 (queries_of own.config own.seed)))

pub returns-in_err-write_queries-clause-part : goal.returns-in_err-write_queries-clause-part
returns-in_err-write_queries-clause-part g c =
    let own = c.args.generation.now in
    let files = rw (c.config.ensures, c.seed.ensures) at c.in_ok-write_graph.ensures.files in
    let both = MakesFiles-append (graph own.config own.seed ∷ []) (workload own.config own.seed ∷ []) _ _ _ files c.in_ok-write_workload.ensures.files in
    OnErr-all c.from_residual-in_err-write_queries.result _
    (MakesPart-append (graph own.config own.seed ∷ workload own.config own.seed ∷ []) (work_outputs (workload_of own.config own.seed)) _ _ _ both c.in_err-write_queries.ensures.part)

pub returns-in_err-write_queries-clause-part_calls : goal.returns-in_err-write_queries-clause-part_calls
returns-in_err-write_queries-clause-part_calls g c =
    let own = c.args.generation.now in
    let calls = rw (c.config.ensures, c.seed.ensures) at c.in_ok-write_graph.ensures.calls in
    let both = TakesCalls-append (graph own.config own.seed ∷ []) (workload own.config own.seed ∷ []) _ _ _ calls c.in_ok-write_workload.ensures.calls in
    OnErr-all c.from_residual-in_err-write_queries.result _
    (TakesCallsWithin-append (graph own.config own.seed ∷ workload own.config own.seed ∷ []) (work_outputs (workload_of own.config own.seed)) _ _ _ both c.in_err-write_queries.ensures.part_calls)

pub returns-clause-files : goal.returns-clause-files
returns-clause-files g c =
    let own = c.args.generation.now in
    let files = rw (c.config.ensures, c.seed.ensures) at c.in_ok-write_graph.ensures.files in
    let both = MakesFiles-append (graph own.config own.seed ∷ []) (workload own.config own.seed ∷ []) _ _ _ files c.in_ok-write_workload.ensures.files in
    MakesFiles-append (graph own.config own.seed ∷ workload own.config own.seed ∷ []) (work_outputs (workload_of own.config own.seed)) _ _ _ both c.in_ok-write_queries.ensures.files

pub returns-clause-calls : goal.returns-clause-calls
returns-clause-calls g c =
    let own = c.args.generation.now in
    let calls = rw (c.config.ensures, c.seed.ensures) at c.in_ok-write_graph.ensures.calls in
    let both = TakesCalls-append (graph own.config own.seed ∷ []) (workload own.config own.seed ∷ []) _ _ _ calls c.in_ok-write_workload.ensures.calls in
    TakesCalls-append (graph own.config own.seed ∷ workload own.config own.seed ∷ []) (work_outputs (workload_of own.config own.seed)) _ _ _ both c.in_ok-write_queries.ensures.calls

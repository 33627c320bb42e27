use Rattle.std.proofs.Common.{◌≡◌, length}
use Rattle.summary_text.specs.Counts.{drawn_summary}
use Rattle.gm_top.proofs.WorkloadLemmas.{first_queries}
use Rattle.gm_top.proofs.sampling.count_queries.Given as goal

-- the queries so far were counted
abbrev pub invariant-loop-number : goal.invariant-loop-number
invariant-loop-number l =
    l.counted ≡ drawn_summary l.generation.config l.generation.seed (length l.generation.config.constraints) (first_queries l.generation.config l.generation.seed l.number)

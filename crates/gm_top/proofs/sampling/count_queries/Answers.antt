use Rattle.std.proofs.Common.{◌≡◌, ◌∙◌, ◌<◌, List, Some, length, slice_get, ap, sym, subst, arith}
use Rattle.query_terms.specs.Values.{QueryValue}
use Rattle.query_draw.specs.Query.{query_of}
use Rattle.summary_text.specs.Summary.{HasRoom}
use Rattle.summary_text.specs.Counts.{drawn_summary}
use Rattle.summary_text.specs.Laws.{with_class_of}
use Rattle.gm_top.proofs.QueryLemmas.{drawn-count}
use Rattle.gm_top.proofs.WorkloadLemmas.{first_queries, drawn-at}
use Rattle.gm_top.proofs.SampleLemmas.{drawn-counted, drawn-room}
use Rattle.gm_top.proofs.sampling.count_queries.Goals as goal

pub at-requires : goal.at-requires
at-requires c =
    let own = c.args.generation.now in
    let long = drawn-count own.config own.seed in
    subst (λ (queries : List QueryValue). c.loop-number.number < length queries) (sym c.requires.kept) (omega (arith, long, c.loop-number-test.true, c.query_count-number-end.ensures))

pub count_class-requires : goal.count_class-requires
count_class-requires c =
    let own = c.args.generation.now in
    subst HasRoom (sym c.loop-number.invariant)
    (drawn-room own.config own.seed (length own.config.constraints) c.loop-number.number
    (omega (arith, c.loop-number-test.true, c.query_count-number-end.ensures, c.requires.rules.workload.queries)))

pub loop-number-preserved : goal.loop-number-preserved
loop-number-preserved c =
    let own = c.args.generation.now in
    let n = length own.config.constraints in
    let k = c.loop-number.number in
    let at = subst (λ (queries : List QueryValue). slice_get queries k ≡ Some c.at.result.now) c.requires.kept c.at.ensures in
    let class = c.class.ensures ∙ ap (λ (q : QueryValue). q.class) (drawn-at own.config own.seed k c.at.result.now at) in
    c.count_class.ensures
    ∙ ap (λ found. with_class_of found c.loop-number.counted) class
    ∙ ap (with_class_of (query_of own.config own.seed k).class) c.loop-number.invariant
    ∙ sym (drawn-counted own.config own.seed n k)

pub returns : goal.returns
returns c =
    let own = c.args.generation.now in
    let all : c.loop-number.number ≡ own.config.workload.queries = omega (arith, c.query_count-number-end.ensures) in
    c.loop-number.invariant ∙ ap (λ k. drawn_summary own.config own.seed (length own.config.constraints) (first_queries own.config own.seed k)) all

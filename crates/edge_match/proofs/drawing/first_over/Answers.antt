use Rattle.std.proofs.Common.{◌<◌, length, below_more, sym, ◌∙◌, arith}
use Rattle.edge_match.proofs.SideLemmas.{is_some-false}
use Rattle.edge_match.proofs.LimitLemmas.{IsFirstOver-here, MatchOption-is_some}
use Rattle.edge_match.proofs.drawing.first_over.Goals as goal

pub loop-c-preserved : goal.loop-c-preserved
loop-c-preserved c = below_more _ _ c.loop-c.invariant (sym c.in_ok-over.ensures ∙ is_some-false _ (sym c.if-is_some.ensures))

pub returns-then-is_some : goal.returns-then-is_some
returns-then-is_some c =
    let config = c.args.config.now in
    let known : c.loop-c.c < length config.constraints = omega arith in
    MatchOption-is_some _ _ _ (sym c.if-is_some.ensures) (λ report is. IsFirstOver-here config c.args.seed c.loop-c.c report known (sym c.in_ok-over.ensures ∙ is) c.loop-c.invariant)

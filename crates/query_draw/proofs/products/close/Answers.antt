use Rattle.std.proofs.Common.{◌≡◌, ◌+◌, length, refl, ap, sym, subst, ◌∙◌, arith}
use Rattle.sel_algebra.specs.Table.{one_at}
use Rattle.query_draw.specs.Columns.{AreColumns}
use Rattle.query_draw.proofs.ProductLemmas.{AreRounds, AreRounds-none, AreRounds-more, AreRounds-all, AreRounds-still}
use Rattle.query_draw.proofs.products.close.Goals as goal

pub loop-init : goal.loop-init
loop-init c =
    let one = subst (λ n. AreColumns n c.enter_equal.new.self one_at) c.requires.closure c.enter_equal.ensures in
    record {
      whole = one.whole;
      next = c.requires.next;
      rounds = AreRounds-none c.args.kinds.now c.args.step.now c.enter_equal.new.self one;
    }

pub loop-preserved : goal.loop-preserved
loop-preserved c =
    let kinds = c.args.kinds.now in
    let step = c.args.step.now in
    let n = c.loop.counter in
    let swapped = c.swap.ensures.x_after in
    record {
      whole = ap length swapped ∙ c.make_round.ensures.whole;
      next = ap length c.swap.ensures.y_after ∙ c.loop.invariant.whole;
      rounds = subst (λ cs. AreRounds kinds step cs (n + 1)) (sym swapped) (AreRounds-more kinds step c.loop.closure c.make_round.new.next n c.make_round.ensures.round c.loop.invariant.rounds);
    }

pub returns-then-has_columns_of-clause-closure : goal.returns-then-has_columns_of-clause-closure
returns-then-has_columns_of-clause-closure c =
    AreRounds-still c.args.kinds.now c.args.step.now c.loop.closure c.make_round.new.next c.loop.counter c.make_round.ensures.round (c.if-has_columns_of.ensures.0 refl) c.loop.invariant.rounds

pub returns-clause-closure : goal.returns-clause-closure
returns-clause-closure c =
    let all : c.loop.counter ≡ c.rounds_most-end.result = omega (arith, c.loop-test.false, c.loop.auto.counter-end) in
    AreRounds-all c.args.kinds.now c.args.step.now c.loop.closure c.loop.counter (all ∙ c.rounds_most-end.ensures) c.loop.invariant.rounds

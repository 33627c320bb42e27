use Rattle.std.proofs.Common.{◌+◌, length, take, ap, ◌∙◌, arith}
use Rattle.query_draw.specs.Drawers.{random_words, conjuncts_by}
use Rattle.query_draw.proofs.ConjunctLemmas.{conjuncts_more, conjuncts_put-more}
use Rattle.query_draw.proofs.rules.draw_conjuncts.Goals as goal

pub loop-i-preserved : goal.loop-i-preserved
loop-i-preserved c =
    let d = c.args.drawer.now in
    let s = c.args.skeleton.now in
    let i = c.loop-i.i in
    let legs = c.args.legs.now in
    let put = c.in_ok-draw_conjunct.ensures.put in
    record {
      put =
          conjuncts_put-more c.args.builder.now c.loop-i.builder c.draw_conjunct.new.builder (conjuncts_by d s 0 (take i legs)) (conjuncts_by d s 0 (take (i + 1) legs)) _ c.loop-i.invariant.put put
          (conjuncts_more d.reach.now d.workload.now (random_words d) s.shape s.count i legs _ c.loop-i-test.true);
      few = omega (arith, c.loop-i.invariant.few, c.in_ok-draw_conjunct.ensures.few);
      usable = ap (λ b. b.refused) put ∙ c.loop-i.invariant.usable;
      labels = ap (λ b. length b.labels) put ∙ c.loop-i.invariant.labels;
      words = ap (λ b. b.words) put ∙ c.loop-i.invariant.words;
      word = ap (λ b. b.word) put ∙ c.loop-i.invariant.word;
    }

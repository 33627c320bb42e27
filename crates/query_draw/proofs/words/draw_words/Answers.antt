use Rattle.std.proofs.Common.{◌≡◌, ◌+◌, ◌++◌, length, map, ap, subst, ◌∙◌, arith}
use Rattle.std.specs.List.{range_with_len}
use Rattle.std.proofs.lemmas.List.FromFn.{map-range_with_len_more}
use Rattle.query_draw.specs.Drawers.{word_by}
use Rattle.query_draw.proofs.PutLemmas.{words_put-none, words_put-more}
use Rattle.query_draw.proofs.words.draw_words.Goals as goal

pub loop-j-init : goal.loop-j-init
loop-j-init c = record { put = words_put-none c.args.builder.now; few = omega arith; usable = c.requires.usable; labels = c.requires.labels; word = c.requires.word }

pub loop-j-preserved : goal.loop-j-preserved
loop-j-preserved c =
    let d = c.args.drawer.now in
    let put = c.in_ok-draw_word.ensures.put in
    let words = word_by d c.args.leg c.args.i in
    record {
      put =
          words_put-more c.args.builder.now c.loop-j.builder c.draw_word.new.builder (map words (range_with_len 0 c.loop-j.j)) (map words (range_with_len 0 (c.loop-j.j + 1))) (words c.loop-j.j)
          c.loop-j.invariant.put put (map-range_with_len_more words 0 c.loop-j.j c.loop-j.j (omega arith));
      few = omega (arith, c.loop-j.invariant.few, c.in_ok-draw_word.ensures.few);
      usable = ap (λ b. b.refused) put ∙ c.loop-j.invariant.usable;
      labels = ap (λ b. length b.labels) put ∙ c.loop-j.invariant.labels;
      word = ap (λ b. b.word) put ∙ c.loop-j.invariant.word;
    }

pub returns-clause-put : goal.returns-clause-put
returns-clause-put c =
    let same : c.loop-j.j ≡ c.word_count-j-end.result = omega (arith, c.loop-j-test.false, c.loop-j.auto.j-end) in
    subst (λ n. c.loop-j.builder ≡ record c.args.builder.now { words = c.args.builder.now.words ++ map (word_by c.args.drawer.now c.args.leg c.args.i) (range_with_len 0 n); taken = c.loop-j.builder.taken })
    (same ∙ c.word_count-j-end.ensures.count) c.loop-j.invariant.put

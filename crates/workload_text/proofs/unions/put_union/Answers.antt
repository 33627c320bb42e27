use Rattle.std.proofs.Common.{refl, ◌≡◌, ◌++◌, [], ◌∷◌, true, ap, subst, sym, ◌∙◌, map, arith, length}
use Rattle.std.proofs.lemmas.List.{length-append}
use Rattle.workload_text.specs.Values.{is_short_word}
use Rattle.workload_text.specs.Forms.{is_path_word, read_path}
use Rattle.workload_text.specs.Sofar.{symbols_of}
use Rattle.workload_text.specs.View.{parts_left}
use Rattle.workload_text.specs.Union.{IsFacts, word_of, put_word}
use Rattle.workload_text.proofs.UnionLemmas.{one_more, list_all-more, list_all-rest, short_word-length, put_builder, union_of-some}
use Rattle.workload_text.proofs.unions.put_union.Goals as goal

pub loop-part-init : goal.loop-part-init
loop-part-init c =
    let facts = c.new-facts.ensures c.args.edges.now in
    record {
      whole = rw c.requires.fresh (ap (λ ps. symbols_of (map read_path ps)) (sym c.new-parts.ensures));
      builder = λ i. c.args.builder.now;
      taken = omega (arith, facts.count);
      facts = subst (λ ws. IsFacts c.args.edges.now ws c.new-facts.result) (sym c.requires.fresh) facts;
      few = omega (arith, facts.count);
      each = rw c.requires.fresh refl;
      left = rw c.new-parts.ensures c.requires.words;
    }

pub loop-part-preserved : goal.loop-part-preserved
loop-part-preserved c =
    let word = word_of c.in-Some.part.now in
    let before = c.loop-part.builder.words in
    let put : c.put_word.new.builder ≡ put_word c.loop-part.builder word = rw c.in-Some-2.is at c.in_ok-ends.ensures.put in
    let short : is_short_word (length c.args.edges.now) word ≡ true = sym (rw c.in-Some-2.is at c.in_ok-ends.ensures.short) in
    let ends = rw c.in-Some-2.is at c.in_ok-ends.ensures.ends in
    let words : c.put_word.new.builder.words ≡ before ++ word ∷ [] = ap (λ b. b.words) put in
    let facts = c.with-facts.ensures c.args.edges.now before word c.loop-part.invariant.facts ends in
    let split = c.loop-part.invariant.whole ∙ ap (λ ps. before ++ symbols_of (map read_path ps)) c.in-Some.ensures.part in
    record {
      whole = rw words (one_more before (symbols_of (map read_path (parts_left c.next_part.new.self))) word _ split);
      builder = put_builder c.args.builder.now c.loop-part.builder c.put_word.new.builder word c.loop-part.invariant.builder c.requires.begun put;
      taken = omega (
        arith,
        c.loop-part.invariant.taken,
        c.loop-part.invariant.few,
        ap (λ b. b.taken) put,
        short_word-length _ word short,
        facts.count,
        c.loop-part.invariant.facts.count,
        length-append before (word ∷ []),
      );
      facts = subst (λ ws. IsFacts c.args.edges.now ws c.with-facts.result) (sym words) facts;
      few = omega (arith, c.if-facts-ge-WORDS_MOST.false, facts.count, c.loop-part.invariant.facts.count, length-append before (word ∷ []));
      each = rw words (list_all-more (is_short_word (length c.args.edges.now)) before [] word c.loop-part.invariant.each short);
      left = list_all-rest is_path_word _ _ c.in-Some.part.now c.in-Some.ensures.part c.loop-part.invariant.left;
    }

pub returns-clause-some : goal.returns-clause-some
returns-clause-some c = union_of-some c.args.words.now

use Rattle.query_terms.proofs.outline.Outline.of.Goals as goal

pub invariant_of-result : goal.invariant_of-result
invariant_of-result c =
    let q = c.args.query.now in
    rw (c.in_ok-try_alloc_slice_copy.ensures, c.in_ok-try_alloc_slice_copy-2.ensures, c.in_ok-try_alloc_slice_copy-3.ensures, c.in_ok-try_alloc_slice_copy-4.ensures, c.in_ok-try_alloc_slice_copy-5.ensures)
    (record {
      kept = record { symbols_are = q.symbols_are; words_are = q.words_are; words_lie = q.words_lie };
      words_cover = q.conjuncts_cover;
      conjuncts_cover = q.rules_cover;
      heads = q.heads_are;
      rules_are = q.rules_are;
      class_is = q.class_is;
      wide_is = q.wide_is;
      numbers_are = q.numbers_are;
    })

use Rattle.std.proofs.Common.{◌≡◌, ◌++◌, true, take, codes}
use Rattle.std.specs.List.{flat_map, list_all}
use Rattle.query_terms.specs.Spans.{cut}
use Rattle.sparql_emit.specs.Words.{word_text, word_has_names}
use Rattle.sparql_emit.proofs.words.write_union.Given as goal

abbrev pub invariant-loop-word : goal.invariant-loop-word
invariant-loop-word l = record {
  text : l.out.items ≡ l.initial.out.items ++ flat_map (λ word. codes "|" ++ word_text l.names l.query.labels.now (cut l.query.symbols.now word)) (take l.word-index l.others);
  names : list_all (λ word. word_has_names l.names l.query.labels.now (cut l.query.symbols.now word)) (take l.word-index l.others) ≡ true;
}

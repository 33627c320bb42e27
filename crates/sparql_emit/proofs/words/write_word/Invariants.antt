use Rattle.std.proofs.Common.{◌≡◌, ◌++◌, true, take, codes}
use Rattle.std.specs.List.{flat_map}
use Rattle.sparql_emit.specs.Words.{symbol_text, word_has_names}
use Rattle.sparql_emit.proofs.words.write_word.Given as goal

abbrev pub invariant-loop-symbol : goal.invariant-loop-symbol
invariant-loop-symbol l = record {
  text : l.out.items ≡ l.initial.out.items ++ flat_map (λ s. codes "/" ++ symbol_text l.names l.labels s) (take l.symbol-index l.others);
  names : word_has_names l.names l.labels (take l.symbol-index l.others) ≡ true;
}

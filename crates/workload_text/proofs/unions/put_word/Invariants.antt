use Rattle.std.proofs.Common.{◌≡◌, ◌+◌, ◌≤◌, ◌&&◌, true, ◌++◌, length, map}
use Rattle.std.specs.List.{list_all}
use Rattle.query_terms.specs.Values.{has_edge}
use Rattle.workload_text.specs.Values.{word_end, end_from, is_chain, is_chain_from}
use Rattle.workload_text.specs.Forms.{is_symbol_word, read_symbol}
use Rattle.workload_text.specs.Sofar.{symbol_of}
use Rattle.workload_text.specs.View.{parts_left}
use Rattle.workload_text.specs.Union.{word_of}
use Rattle.workload_text.proofs.unions.put_word.Given as goal

-- the symbols so far were put, and those that are left decide the rest
abbrev pub invariant-loop-part : goal.invariant-loop-part
invariant-loop-part l = record {
  whole : word_of l.word ≡ l.builder.word ++ map symbol_of (map read_symbol (parts_left l.parts));
  builder : l.builder ≡ record l.fn.builder { word = l.builder.word; taken = l.fn.builder.taken + length l.builder.word };
  count : length l.builder.word ≡ l.count;
  few : l.count ≤ 32;
  each : list_all (has_edge (length l.edges)) l.builder.word ≡ true;
  chain : is_chain l.edges (word_of l.word) ≡ (l.chain && is_chain_from l.edges l.at (map symbol_of (map read_symbol (parts_left l.parts))));
  finish : word_end l.edges (word_of l.word) ≡ end_from l.edges l.at (map symbol_of (map read_symbol (parts_left l.parts)));
  left : list_all is_symbol_word (parts_left l.parts) ≡ true;
}

abbrev pub decreases-loop-part : goal.decreases-loop-part
decreases-loop-part l = length (parts_left l.parts)

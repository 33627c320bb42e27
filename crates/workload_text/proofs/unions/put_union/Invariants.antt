use Rattle.std.proofs.Common.{◌≡◌, ◌+◌, ◌*◌, ◌≤◌, true, ◌++◌, length, map}
use Rattle.std.specs.List.{list_all}
use Rattle.workload_text.specs.Values.{is_short_word}
use Rattle.workload_text.specs.Forms.{is_path_word, read_path}
use Rattle.workload_text.specs.Sofar.{symbols_of}
use Rattle.workload_text.specs.View.{parts_left}
use Rattle.workload_text.specs.Union.{union_of, IsFacts}
use Rattle.workload_text.proofs.unions.put_union.Given as goal

-- the words so far were put and seen
abbrev pub invariant-loop-part : goal.invariant-loop-part
invariant-loop-part l = record {
  whole : union_of l.words ≡ l.builder.words ++ symbols_of (map read_path (parts_left l.parts));
  builder : l.builder ≡ record l.fn.builder { words = l.builder.words; taken = l.builder.taken };
  taken : l.builder.taken ≤ l.fn.builder.taken + 32 * l.facts.count;
  facts : IsFacts l.edges l.builder.words l.facts;
  few : l.facts.count ≤ 8;
  each : list_all (is_short_word (length l.edges)) l.builder.words ≡ true;
  left : list_all is_path_word (parts_left l.parts) ≡ true;
}

abbrev pub decreases-loop-part : goal.decreases-loop-part
decreases-loop-part l = length (parts_left l.parts)

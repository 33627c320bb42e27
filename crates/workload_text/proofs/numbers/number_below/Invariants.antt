use Rattle.std.proofs.Common.{◌≡◌, ◌≤◌, true, drop}
use Rattle.std.specs.List.{list_all}
use Rattle.std.specs.Char.{is_ascii_digit}
use Rattle.std.specs.Str.Parse.{digits_value_after}
use Rattle.workload_text.specs.Sofar.{number}
use Rattle.workload_text.proofs.numbers.number_below.Given as goal

-- the digits so far have a number below the limit, and those that are left go on from it
abbrev pub invariant-loop-byte : goal.invariant-loop-byte
invariant-loop-byte l = record {
  small : l.value ≤ 255;
  whole : number l.word ≡ digits_value_after 10 l.value (drop l.byte-index l.word);
  digits : list_all is_ascii_digit (drop l.byte-index l.word) ≡ true;
}

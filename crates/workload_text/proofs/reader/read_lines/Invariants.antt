use Rattle.std.proofs.Common.{◌≡◌, ◌+◌, ◌≤◌, length}
use Rattle.gm_text.specs.Lines.{lines_of}
use Rattle.workload_text.specs.Rules.{verdict, verdict_of}
use Rattle.workload_text.specs.State.{sofar_of, IsUsable}
use Rattle.workload_text.proofs.reader.read_lines.Given as goal

-- the lines that are left decide
abbrev pub invariant-loop-line : goal.invariant-loop-line
invariant-loop-line l = record {
  rest : verdict_of l.bytes ≡ verdict (sofar_of l.reading) l.number (lines_of l.scan);
  usable : IsUsable l.reading;
  few : l.number + length (lines_of l.scan) ≤ length l.bytes + 1;
}

abbrev pub decreases-loop-line : goal.decreases-loop-line
decreases-loop-line l = length (lines_of l.scan)

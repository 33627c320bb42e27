use Rattle.std.proofs.Common.{refl, arith}
use Rattle.gm_text.proofs.LinesLemmas.{length_lines_of_le}
use Rattle.workload_text.proofs.reader.read_lines.Goals as goal

pub loop-line-init : goal.loop-line-init
loop-line-init c = record {
  rest = rw (c.new-scan.ensures, c.in_ok-reading.ensures.value) refl;
  usable = c.in_ok-reading.ensures.usable;
  few = rw c.new-scan.ensures (omega (arith, length_lines_of_le c.args.bytes.now));
}

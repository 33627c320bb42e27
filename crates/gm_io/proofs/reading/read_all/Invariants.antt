use Rattle.std.proofs.Common.{◌≡◌, ◌+◌, ◌≤◌, ◌-◌, length, vec_len}
use Rattle.std.specs.Io.KnownBytes.{Consumes}
use Rattle.gm_io.specs.Count.{raised}
use Rattle.gm_io.proofs.reading.read_all.Given as goal

-- The bytes so far are what the source gave, each turn but the last takes one, and none failed.
abbrev pub invariant-loop-piece : goal.invariant-loop-piece
invariant-loop-piece g l = record {
  taken : Consumes (g.S.Source.left l.fn.source) (g.S.Source.left l.source) l.bytes.items;
  given : g.S.Source.given l.source ≡ raised (g.S.Source.given l.fn.source) (length l.bytes.items);
  turns : g.S.Source.calls l.source + (16777217 - length l.bytes.items) ≤ g.S.Source.calls l.fn.source + 16777217;
  no_fault : g.S.Source.faults l.source ≡ g.S.Source.faults l.fn.source;
}

abbrev pub decreases-loop-piece : goal.decreases-loop-piece
decreases-loop-piece g l = 16777217 - vec_len l.bytes

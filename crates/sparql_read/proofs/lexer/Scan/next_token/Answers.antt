use Rattle.std.proofs.Common.{arith}
use Rattle.sparql_read.proofs.ScanLemmas.{scan_gap, scan_token, scan_other}
use Rattle.sparql_read.proofs.lexer.Scan.next_token.Goals as goal

pub loop-self-preserved : goal.loop-self-preserved
loop-self-preserved c =
    let x = c.in-Some-None-default in
    record {
      gaps = scan_gap _ _ _ _ _ c.loop-self.invariant.gaps x.ensures.bytes (rw x.field-0-0-is at x.ensures.is);
      shorter = omega (arith, c.loop-self.invariant.shorter, x.ensures.shorter, c.in-len1-up.len_at_least);
    }

pub returns-in-Some-Some-default : goal.returns-in-Some-Some-default
returns-in-Some-Some-default c =
    let x = c.in-Some-Some-default in (
      scan_token _ _ _ _ _ _ c.loop-self.invariant.gaps x.ensures.bytes (rw x.field-0-0-is at x.ensures.is),
      omega (arith, c.loop-self.invariant.shorter, x.ensures.shorter, c.in-len1-up.len_at_least),
    )

pub returns-in-None : goal.returns-in-None
returns-in-None c = scan_other _ _ _ _ c.loop-self.invariant.gaps c.in-None.ensures.bytes c.in-None.ensures.is

use Rattle.std.proofs.Common.{sym}
use Rattle.sparql_read.proofs.ReaderLemmas.{reading_start, reading_more, reading_end, reading_unended}
use Rattle.sparql_read.proofs.reader.read_body.Goals as goal

pub loop-token-init : goal.loop-token-init
loop-token-init c = reading_start _ _ _ c.requires c.new-parts.ensures.is c.new-parts.ensures.few c.new-parts.ensures.first

pub loop-token-preserved : goal.loop-token-preserved
loop-token-preserved c =
    let x = c.in-Next.ensures in
    reading_more _ _ _ _ _ _ _ _ _ c.loop-token.invariant x.0 x.1 (sym c.if-not-has_mark.ensures) (rw c.in-Some.is at c.in_ok-next-in-Next.ensures.is)
    c.in_ok-next-in-Next.ensures.grown

pub returns-then-is_end : goal.returns-then-is_end
returns-then-is_end c =
    record {
      is = reading_end _ _ _ _ _ c.loop-token.invariant c.in-End.ensures (c.if-is_end.ensures c.loop-token.parts c.loop-token.invariant.spot c.loop-token.invariant.here);
    }

pub returns-in-End : goal.returns-in-End
returns-in-End c =
    record {
      is = reading_unended _ _ _ _ _ c.loop-token.invariant c.in-End.ensures (c.if-is_end.ensures c.loop-token.parts c.loop-token.invariant.spot c.loop-token.invariant.here);
    }

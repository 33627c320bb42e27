use Rattle.std.proofs.Common.{length}
use Rattle.sparql_read.specs.Reader.{Reading}
use Rattle.sparql_read.proofs.reader.read_body.Given as goal

abbrev pub invariant-loop-token : goal.invariant-loop-token
invariant-loop-token l = Reading l.mark l.fn.scan.rest.now l.scan.rest.now l.parts l.place

abbrev pub decreases-loop-token : goal.decreases-loop-token
decreases-loop-token l = length l.scan.rest.now

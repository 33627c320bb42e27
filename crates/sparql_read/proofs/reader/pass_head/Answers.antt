use Rattle.sparql_read.proofs.ReaderLemmas.{head_found}
use Rattle.sparql_read.proofs.reader.pass_head.Goals as goal

pub returns : goal.returns
returns c =
    record {
      is = head_found _ _ _ _ _ _ _ c.head_mark.result c.in-Some.ensures.is c.in-Some-pass_token.ensures.is c.in-Some-pass_token-2.ensures.is c.head_mark.ensures;
    }

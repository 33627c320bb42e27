use Rattle.std.proofs.Common.{◌∙◌, codes, decimal, sym}
use Rattle.sql_emit.proofs.TextLemmas.{five}
use Rattle.sql_emit.proofs.tables.put_table.Goals as goal

pub returns-in-Seq-clause-put : goal.returns-in-Seq-clause-put
returns-in-Seq-clause-put c =
    rw c.in-Seq.is
    (c.put_two.ensures.put
    ∙ sym (five (codes "(src, trg) AS (SELECT a.src, b.trg FROM t") (decimal c.in-Seq.one) (codes " AS a, t") (decimal c.in-Seq.other) (codes " AS b WHERE a.trg = b.src") (codes ")")))

pub returns-in-Alt-clause-put : goal.returns-in-Alt-clause-put
returns-in-Alt-clause-put c =
    rw c.in-Alt.is
    (c.put_two-in-Alt.ensures.put
    ∙ sym (five (codes "(src, trg) AS (SELECT a.src, a.trg FROM t") (decimal c.in-Alt.one) (codes " AS a UNION SELECT b.src, b.trg FROM t") (decimal c.in-Alt.other) (codes " AS b") (codes ")")))

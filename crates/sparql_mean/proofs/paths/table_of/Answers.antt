use Rattle.sparql_mean.proofs.paths.table_of.Goals as goal

pub returns-in-Seq : goal.returns-in-Seq
returns-in-Seq c = rw (c.in-Seq.is, ← c.table_at-first.ensures, ← c.table_at-second.ensures) c.select-in-Seq.ensures

pub returns-in-Alt : goal.returns-in-Alt
returns-in-Alt c = rw (c.in-Alt.is, ← c.table_at-left.ensures, ← c.table_at-right.ensures) c.select-in-Alt.ensures

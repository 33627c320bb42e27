use Rattle.std.proofs.Common.{◌≡◌, map, take}
use Rattle.sql_emit.specs.Writing.{link_of}
use Rattle.sql_emit.proofs.query.links_of.Given as goal

abbrev pub invariant-loop-conjunct : goal.invariant-loop-conjunct
invariant-loop-conjunct l = l.links.items ≡ map link_of (take l.conjunct-index l.conjuncts)

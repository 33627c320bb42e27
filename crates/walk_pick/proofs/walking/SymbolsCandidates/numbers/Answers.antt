use Rattle.std.proofs.Common.{arith}
use Rattle.schema_graph.proofs.SymbolLemmas.{length-symbols_of}
use Rattle.walk_pick.proofs.walking.SymbolsCandidates.numbers.Goals as goal

pub returns-clause-few : goal.returns-clause-few
returns-clause-few c = let s = c.args.self.now in omega (arith, s.count_is, length-symbols_of s.schema.now.edges s.at.at, s.known.few_edges)

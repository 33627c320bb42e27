use Rattle.std.proofs.Common.{sym}
use Rattle.std.proofs.lemmas.Option.{get_or_from_slice_get}
use Rattle.schema_graph.specs.Symbols.{symbols_of}
use Rattle.walk_pick.proofs.walking.nth_symbol.Goals as goal

pub returns-clause-symbol : goal.returns-clause-symbol
returns-clause-symbol c = sym (get_or_from_slice_get (symbols_of c.args.schema.now.edges c.args.t) c.args.i c.symbol_from.result _ c.symbol_from.ensures.symbol)

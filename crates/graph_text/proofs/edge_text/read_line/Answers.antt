use Rattle.graph_text.proofs.EdgesTextLemmas.{IsLineOf-from_words}
use Rattle.graph_text.proofs.edge_text.read_line.Goals as goal

pub returns : goal.returns
returns c = IsLineOf-from_words c.args.line.now.bytes.now c.args.line.now.ended c.read_triple.result c.if-not-line.false c.read_triple.ensures

use Rattle.sel_graph.proofs.reach.Reach.build.Goals as goal

pub of-moves-requires-clause-words : goal.of-moves-requires-clause-words
of-moves-requires-clause-words c = rw c.in_ok-copy.ensures (c.in_ok-words.ensures c.args.stars)

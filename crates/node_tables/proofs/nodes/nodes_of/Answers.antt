use Rattle.std.proofs.lemmas.List.Filters.{dedup_is}
use Rattle.node_tables.proofs.NodeLemmas.{are_nodes}
use Rattle.node_tables.proofs.nodes.nodes_of.Goals as goal

pub returns : goal.returns
returns c =
    rw (dedup_is _ _ _ c.dedup.ensures.filtered)
    (are_nodes _ _ _ c.in_ok-nodes.ensures c.sort_unstable.ensures.permutation c.sort_unstable.ensures.sorted)

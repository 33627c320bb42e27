use Rattle.std.proofs.lemmas.List.Filters.{dedup_is}
use Rattle.graph_text.proofs.RowLemmas.{sorted_are_rows, sorted_rise, sorted_have}
use Rattle.graph_text.proofs.rows.Rows.sorted.Goals as goal

pub invariant_of-result : goal.invariant_of-result
invariant_of-result c =
    rw (dedup_is _ _ _ c.dedup.ensures.filtered) (
      sorted_are_rows _ _ c.requires c.sort_unstable.ensures.permutation c.sort_unstable.ensures.sorted,
      sorted_rise _ _ c.requires c.sort_unstable.ensures.permutation c.sort_unstable.ensures.sorted,
    )

pub returns-clause-rows : goal.returns-clause-rows
returns-clause-rows c =
    rw (dedup_is _ _ _ c.dedup.ensures.filtered)
    (sorted_have _ _ c.requires c.sort_unstable.ensures.permutation c.sort_unstable.ensures.sorted)

pub returns-clause-rising : goal.returns-clause-rising
returns-clause-rising c =
    rw (dedup_is _ _ _ c.dedup.ensures.filtered)
    (sorted_rise _ _ c.requires c.sort_unstable.ensures.permutation c.sort_unstable.ensures.sorted)

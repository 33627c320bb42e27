use Rattle.std.proofs.Common.{leb, nat_lt, rules, sym}
use Rattle.std.proofs.lemmas.List.Sorted.{IsPartitionPoint-from_clause, IsPartitionedBy-leb}
use Rattle.degree_table.proofs.SumLemmas.{position_or_len-from_point, position_or_len-from_first}
use Rattle.degree_table.proofs.table.place_past.Goals as goal

pub returns-in-Some : goal.returns-in-Some
returns-in-Some c =
    sym (position_or_len-from_first (nat_lt c.args.t) _ c.args.sums.now c.in-Some.place (sym c.in-Some.ensures))

pub returns-in-None : goal.returns-in-None
returns-in-None c =
    let parted = IsPartitionedBy-leb (λ s. s) c.args.sums.now c.args.t c.requires.rising in
    let point = IsPartitionPoint-from_clause (λ s. leb s c.args.t) c.args.sums.now _ c.partition_point.ensures.partitioned parted (λ a r q k. search rules) in
    sym (position_or_len-from_point _ _ _ c.partition_point.ensures.bound point)

use Rattle.std.proofs.Common.{◌≡◌, ◌-◌, ℕ, length}
use Rattle.sql_read.specs.Kept.{table_in}
use Rattle.sql_mean.specs.Evaluation.{round_list}
use Rattle.sql_mean.proofs.KnownLemmas.{candidates}
use Rattle.sql_mean.proofs.tables.rounds.Given as goal

abbrev pub invariant-loop-rows : goal.invariant-loop-rows
invariant-loop-rows l = record {
  known : l.known.items ≡ l.fn.known.items;
  made : (k : ℕ) × (l.rows.items ≡ round_list l.fn.known.items (table_in l.table l.query.kept) k);
}

abbrev pub decreases-loop-rows : goal.decreases-loop-rows
decreases-loop-rows l = length (candidates l.fn.known.items (table_in l.table l.query.kept)) - length l.rows.items

-- A table in rounds: the first, the next, and that rounds end.
use Rattle.std.proofs.Common.{◌≡◌, ◌<◌, ◌≤◌, ◌-◌, inl, inr, ℕ, zero, suc, List, [], ◌∷◌, map, take, drop, length, sym, ap, ◌∙◌, arith}
use Rattle.std.proofs.lemmas.Bool.{cases_lt}
use Rattle.sql_read.specs.Kept.{Kept, cut, query_in, table_in}
use Rattle.sql_read.specs.declared.query.Select.{Select}
use Rattle.sql_read.specs.declared.query.Table.{Table}
use Rattle.sql_mean.specs.Tables.{last_select}
use Rattle.sql_mean.specs.Evaluation.{KnownValue, union_list, joined, so_far, round_list, IsStableList}
use Rattle.sql_mean.proofs.EvaluationLemmas.{joined-same, joined-long}
use Rattle.sql_mean.proofs.KnownLemmas.{candidates, round_few}
use Rattle.sql_mean.proofs.LoopLemmas.{base_is, last_is}

module _ (kept : Kept) (t : Table) (n : ℕ) (count : n ≡ length (cut kept.selects t.body) - 1) (known : List KnownValue) where
  pub first_round : (front : List Select) → front ≡ take n (cut kept.selects t.body) → (rows begun : List (List ℕ)) → begun ≡ []
      → rows ≡ joined begun (union_list known (map (λ s. query_in s kept) front)) → rows ≡ round_list known (table_in t kept) zero
  unfolding round_list
  first_round front is rows begun none made =
      made ∙ ap (λ xs. joined xs (union_list known (map (λ s. query_in s kept) front))) none
      ∙ ap (λ qs. joined [] (union_list known qs)) (ap (λ ss. map (λ s. query_in s kept) ss) is ∙ sym (base_is kept t n count))

  pub later_round : (back : List Select) → back ≡ drop n (cut kept.selects t.body) → (k : ℕ) (rows all : List (List ℕ)) (now : List KnownValue) → now ≡ known
      → rows ≡ round_list known (table_in t kept) k → all ≡ joined rows (union_list (so_far (table_in t kept) rows ∷ now) (map (λ s. query_in s kept) back))
      → all ≡ round_list known (table_in t kept) (suc k)
  unfolding round_list
  later_round back is k rows all now same made next =
      next
      ∙ ap (λ ks. joined rows (union_list (so_far (table_in t kept) rows ∷ ks) (map (λ s. query_in s kept) back))) same
      ∙ ap (λ qs. joined rows (union_list (so_far (table_in t kept) rows ∷ known) qs)) (ap (λ ss. map (λ s. query_in s kept) ss) is ∙ sym (last_is kept t n count))
      ∙ ap (λ xs. joined xs (union_list (so_far (table_in t kept) xs ∷ known) (last_select (table_in t kept)))) made

module _ (known : List KnownValue) (t : Table) (kept : Kept) (k : ℕ) (rows all : List (List ℕ)) (made : rows ≡ round_list known (table_in t kept) k)
    (next : all ≡ round_list known (table_in t kept) (suc k)) where
  rounds_grow : length rows ≤ length all
  unfolding round_list
  rounds_grow = omega (
    arith,
    ap length made,
    ap length next,
    joined-long (union_list (so_far (table_in t kept) (round_list known (table_in t kept) k) ∷ known) (last_select (table_in t kept))) (round_list known (table_in t kept) k),
  )

  pub fewer_left : (length all ≡ length rows → ⊥) → length (candidates known (table_in t kept)) - length all < length (candidates known (table_in t kept)) - length rows
  fewer_left differ =
      let few : length all ≤ length (candidates known (table_in t kept)) = omega (arith, ap length next, round_few known (table_in t kept) (suc k)) in
      elim (cases_lt (length rows) (length all)) [ inl more ↦ omega (arith, few, more) | inr same ↦ absurd (differ (omega (arith, same, rounds_grow))) ]

  pub is_stable : length all ≡ length rows → IsStableList known (table_in t kept) all
  unfolding round_list
  is_stable same =
      let stable : round_list known (table_in t kept) (suc k) ≡ round_list known (table_in t kept) k =
      joined-same (union_list (so_far (table_in t kept) (round_list known (table_in t kept) k) ∷ known) (last_select (table_in t kept))) (round_list known (table_in t kept) k)
      (omega (arith, same, ap length made, ap length next)) in
      record { round = k; rows_are = next ∙ stable; stable = stable }

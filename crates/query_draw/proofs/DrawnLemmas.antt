-- Lemmas of the drawn query.
use Rattle.std.proofs.Common.{◌≡◌, ℕ, ◌+◌, ◌<◌, Bool, true, ap, ◌∙◌, arith, inl, inr}
use Rattle.std.proofs.lemmas.Bool.{cases_eq}

-- what passes below k and at k passes below k + 1
pub passes_more : (p : ℕ → Bool) (k : ℕ) → ((n : ℕ) → n < k → p n ≡ true) → p k ≡ true → (n : ℕ) → n < k + 1 → p n ≡ true
passes_more p k before here n below = elim (cases_eq n k) [
  | inl same ↦ ap p same ∙ here
  | inr other ↦ before n (omega (arith, below, other))
]

-- Parts that are cut at the first place of a byte.
use Rattle.std.proofs.Common.{◌≡◌, ℕ, ◌+◌, ◌<◌, ◌≤◌, Bool, false, List, [], ◌∷◌, None, length, slice_index, take, drop, inl, inr, subst, arith}
use Rattle.std.specs.List.{slice_split, position_or_len, between}
use Rattle.std.proofs.lemmas.Bool.{cases_Bool}
use Rattle.std.proofs.lemmas.List.Splits.{slice_split_none, slice_split_first, length-slice_split}
use Rattle.std.proofs.lemmas.List.Sums.{fails_before_first, position_or_len_is}
use Rattle.std.proofs.lemmas.Slice.{between_to_end}
use Rattle.memchr.specs.Find.{Nowhere, NoneBefore, Passes}
use Rattle.workload_text.specs.Forms.{two_words}

module _ (p : ℕ → Bool) (xs : List ℕ) where
  fails_at : (i j k : ℕ) → i ≤ k → k < j → Nowhere (Passes p xs) i j → p (slice_index xs k) ≡ false
  fails_at i j k low high none = elim (cases_Bool (p (slice_index xs k))) [
    | inl hit ↦ absurd (none k low high hit)
    | inr miss ↦ miss
  ]

  -- no place, and one part
  pub one_part : Nowhere (Passes p xs) 0 (length xs) → slice_split p xs ≡ xs ∷ []
  one_part none =
      let end : position_or_len p xs ≡ length xs =
      position_or_len_is p xs (length xs) 0 (omega arith) (λ k h. fails_at 0 (length xs) k (omega arith) h none) (λ h. absurd (omega arith)) in
      slice_split_none p xs (λ k d in_range. fails_before_first p xs k d (omega (arith, end, in_range)))

  -- the first part ends at the first place
  pub first_part : (i : ℕ) → NoneBefore (Passes p xs) 0 (length xs) i → Passes p xs i → slice_split p xs ≡ take i xs ∷ slice_split p (between (i + 1) (length xs) xs)
  first_part i first passes =
      let high : i < length xs = first.high in
      let at : position_or_len p xs ≡ i =
      position_or_len_is p xs i 0 (omega (arith, high)) (λ k h. fails_at 0 i k (omega arith) h first.before) (λ h. passes) in
      rw (between_to_end xs (i + 1) (length xs) (omega arith))
      (subst (λ k. slice_split p xs ≡ take k xs ∷ slice_split p (drop (k + 1) xs)) at (slice_split_first p xs 0 (omega (arith, at, high))))

-- three words and more are not two
two_words-more : (a b : List ℕ) (parts : List (List ℕ)) → 0 < length parts → two_words (a ∷ b ∷ parts) ≡ None
two_words-more a b [] some = absurd (omega arith)
two_words-more a b (part ∷ parts) some = λ i. None

pub not_two : (p : ℕ → Bool) (a b rest : List ℕ) → two_words (a ∷ b ∷ slice_split p rest) ≡ None
not_two p a b rest = two_words-more a b (slice_split p rest) (omega (arith, length-slice_split p rest))

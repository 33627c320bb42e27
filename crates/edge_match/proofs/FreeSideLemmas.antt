-- One stub more of a free side.
use Rattle.std.proofs.Common.{◌≡◌, ℕ, zero, suc, ◌+◌, ◌<◌, Bool, true, false, cond, ◌==◌, List, [], ◌∷◌, ◌++◌, length, get_or, inl, inr, ap, sym, ◌∙◌, arith}
use Rattle.std.specs.List.{range_with_len, sum_by}
use Rattle.std.proofs.Math.ListN.{set}
use Rattle.std.proofs.lemmas.Bool.{cases_eq}
use Rattle.std.proofs.lemmas.Bool.Decides.{nat_tests}
use Rattle.std.proofs.lemmas.List.{get_or-set_other}
use Rattle.std.proofs.lemmas.Grind.{get_or-set_at}
use Rattle.std.proofs.lemmas.List.Sums.{sum_by_push}
use Rattle.seeded_draw.specs.Draw.{word, pick_of}
use Rattle.edge_match.specs.FreeSide.{picked_degree}

pub range_with_len-more : (a n : ℕ) → range_with_len a (suc n) ≡ range_with_len a n ++ (a + n) ∷ []
range_with_len-more a zero = ap (λ m. m ∷ []) (omega arith)
range_with_len-more a (suc n) =
    let next : a + 1 + n ≡ a + suc n = omega arith in
    ap (λ ms. a ∷ ms) (range_with_len-more (a + 1) n ∙ ap (λ m. range_with_len (a + 1) n ++ m ∷ []) next)

pub picked_degree-more : (seed stream nodes k place : ℕ)
    → picked_degree seed stream nodes (k + 1) place ≡ picked_degree seed stream nodes k place + cond (pick_of (word seed stream k) nodes == place) 1 0
picked_degree-more seed stream nodes k place =
    let test : ℕ → ℕ = λ s. cond (pick_of (word seed stream s) nodes == place) 1 0 in
    let next : k + 1 ≡ suc k = omega arith in
    let last : 0 + k ≡ k = omega arith in
    let more = ap (range_with_len 0) next ∙ range_with_len-more 0 k ∙ ap (λ m. range_with_len 0 k ++ m ∷ []) last in
    ap (sum_by test) more ∙ sum_by_push test (range_with_len 0 k) k

pub test-same : (a b : ℕ) → a ≡ b → (a == b) ≡ true
test-same a b same = grind (arith, nat_tests)

pub test-other : (a b : ℕ) → (a ≡ b → ⊥) → (a == b) ≡ false
test-other a b differ = grind (arith, nat_tests)

-- the degree at the picked place rises by one, and no other does
pub picked_degree-pick : (degrees : List ℕ) (seed stream k p w place : ℕ) → p < length degrees
    → p ≡ pick_of w (length degrees) → w ≡ word seed stream k
    → get_or degrees place 0 ≡ picked_degree seed stream (length degrees) k place
    → get_or (set degrees p (get_or degrees p 0 + 1)) place 0 ≡ picked_degree seed stream (length degrees) (k + 1) place
picked_degree-pick degrees seed stream k p w place lt picked drawn before =
    let nodes = length degrees in
    let more = picked_degree-more seed stream nodes k place in
    let pick : pick_of (word seed stream k) nodes ≡ p = sym (picked ∙ ap (λ x. pick_of x nodes) drawn) in
    let by_test = λ (b : Bool) (test : (pick_of (word seed stream k) nodes == place) ≡ b). more ∙ ap (λ t. picked_degree seed stream nodes k place + cond t 1 0) test in
    elim (cases_eq p place) [
      | inl same ↦
          get_or-set_at degrees p place (get_or degrees p 0 + 1) 0 (sym same) lt
          ∙ omega (arith, before, ap (λ q. get_or degrees q 0) same, by_test true (test-same _ _ (pick ∙ same)))
      | inr differ ↦
          get_or-set_other degrees p place (get_or degrees p 0 + 1) 0 (λ same. differ (sym same))
          ∙ omega (arith, before, by_test false (test-other _ _ (λ same. differ (sym pick ∙ same))))
    ]

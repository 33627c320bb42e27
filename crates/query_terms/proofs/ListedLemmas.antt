-- Terms in a list that is small: each code stands for its term, also where more terms follow.
use Rattle.std.proofs.Common.{◌≡◌, ℕ, zero, suc, ◌+◌, ◌-◌, ◌<◌, ◌≤◌, true, false, if◌then◌else◌, List, [], ◌∷◌, ◌++◌, length, slice_get, get_or, Some, refl, sym, ap, ◌∙◌, true≢false, arith, inl, inr}
use Rattle.std.proofs.lemmas.Bool.{and_parts, cases_Bool, lt-ltb, ltb-true, ltb-false, le-ltb}
use Rattle.std.proofs.lemmas.List.{get_or_push, get_or_append_left, length-append}
use Rattle.std.proofs.lemmas.Option.{slice_get-get_or, get_or_from_slice_get}
use Rattle.std.proofs.lemmas.List.Folds.{list_all-append, list_all_at}
use Rattle.std.specs.Prelude.{nat_lt}
use Rattle.std.specs.List.{list_all}
use Rattle.query_terms.specs.declared.terms.Term.{Term}
use Rattle.query_terms.specs.declared.terms.Term.TheVariants.{Step, Seq}
use Rattle.query_terms.specs.Listed.{others_from, told, decoded, tells}
use Rattle.query_terms.proofs.SpanLemmas.{and_true, list_all_more}

tells-more : (count code : ℕ) → tells count code ≡ true → tells (count + 1) code ≡ true
tells-more count code h = lt-ltb code (others_from + (count + 1)) (omega (arith, ltb-true code (others_from + count) h))

-- codes tell what they told where there is one other term more
pub tell_more : (others : List Term) (codes : List ℕ) (x : Term) → list_all (tells (length others)) codes ≡ true → list_all (tells (length (others ++ x ∷ []))) codes ≡ true
tell_more others codes x all =
    rw (length-append others (x ∷ [])) (list_all_more (tells (length others)) (tells (length others + 1)) codes (λ c. tells-more (length others) c) all)

told-low : (others : List Term) (n code : ℕ) → code < others_from → told others n code ≡ Seq (n - 1) code
told-low others n code low = ap (λ b. if b then Seq (n - 1) code else get_or others (code - others_from) (Step 0 false)) (lt-ltb code others_from low)

told-other : (others : List Term) (n code : ℕ) → others_from ≤ code → told others n code ≡ get_or others (code - others_from) (Step 0 false)
told-other others n code high = ap (λ b. if b then Seq (n - 1) code else get_or others (code - others_from) (Step 0 false)) (le-ltb code others_from high)

told-more : (others : List Term) (x : Term) (n code : ℕ) → tells (length others) code ≡ true → told (others ++ x ∷ []) n code ≡ told others n code
told-more others x n code h = elim (cases_Bool (nat_lt code others_from)) [
  | inl low ↦ let less = ltb-true code others_from low in told-low (others ++ x ∷ []) n code less ∙ sym (told-low others n code less)
  | inr high ↦ let most = ltb-false code others_from high in
      told-other (others ++ x ∷ []) n code most
      ∙ (get_or_append_left others (x ∷ []) (Step 0 false) (code - others_from) (omega (arith, most, ltb-true code (others_from + length others) h))
      ∙ sym (told-other others n code most))
]

pub decoded_more : (others : List Term) (x : Term) (n : ℕ) (codes : List ℕ) → list_all (tells (length others)) codes ≡ true → decoded (others ++ x ∷ []) n codes ≡ decoded others n codes
decoded_more others x n [] all = refl
decoded_more others x n (c ∷ codes) all =
    let h = and_parts (tells (length others) c) (list_all (tells (length others)) codes) all in
    λ i. told-more others x n c h.0 i ∷ decoded_more others x (n + 1) codes h.1 i

-- the last code tells the last term
decoded-push : (others : List Term) (n : ℕ) (codes : List ℕ) (c : ℕ) → decoded others n (codes ++ c ∷ []) ≡ decoded others n codes ++ told others (n + length codes) c ∷ []
decoded-push others n [] c =
    let same : n ≡ n + 0 = omega arith in ap (λ k. told others k c ∷ []) same
decoded-push others n (d ∷ codes) c =
    let same : n + 1 + length codes ≡ n + suc (length codes) = omega arith in
    ap (λ terms. told others n d ∷ terms) (decoded-push others (n + 1) codes c ∙ ap (λ k. decoded others (n + 1) codes ++ told others k c ∷ []) same)

pub length_decoded : (others : List Term) (n : ℕ) (codes : List ℕ) → length (decoded others n codes) ≡ length codes
length_decoded others n [] = refl
length_decoded others n (c ∷ codes) = ap suc (length_decoded others (n + 1) codes)

decoded-at : (others : List Term) (n : ℕ) (codes : List ℕ) (k : ℕ) → k < length codes → slice_get (decoded others n codes) k ≡ Some (told others (n + k) (get_or codes k 0))
decoded-at others n [] k within = absurd (omega (arith, within))
decoded-at others n (c ∷ codes) zero within = let same : n ≡ n + 0 = omega arith in ap (λ m. Some (told others m c)) same
decoded-at others n (c ∷ codes) (suc k) within =
    let same : n + 1 + k ≡ n + suc k = omega arith in
    decoded-at others (n + 1) codes k (omega (arith, within)) ∙ ap (λ m. Some (told others m (get_or codes k 0))) same

from_zero : (n : ℕ) → 0 + n ≡ n
from_zero n = omega arith

module _ (others : List Term) (codes : List ℕ) where
  last_told : (code : ℕ) → decoded others 0 (codes ++ code ∷ []) ≡ decoded others 0 codes ++ told others (length codes) code ∷ []
  last_told code = decoded-push others 0 codes code ∙ ap (λ n. decoded others 0 codes ++ told others n code ∷ []) (from_zero (length codes))

  told_at : (n : ℕ) → n < length codes → slice_get (decoded others 0 codes) n ≡ Some (told others n (get_or codes n 0))
  told_at n within = decoded-at others 0 codes n within ∙ ap (λ k. Some (told others k (get_or codes n 0))) (from_zero n)

module _ (others : List Term) (codes : List ℕ) where
  -- a sequence more that goes on
  pub push_low : (term : Term) (code : ℕ) → code < others_from → Seq (length codes - 1) code ≡ term → decoded others 0 (codes ++ code ∷ []) ≡ decoded others 0 codes ++ term ∷ []
  push_low term code low same = last_told others codes code ∙ ap (λ t. decoded others 0 codes ++ t ∷ []) (told-low others (length codes) code low ∙ same)

  pub tell_low : (code : ℕ) → list_all (tells (length others)) codes ≡ true → code < others_from → list_all (tells (length others)) (codes ++ code ∷ []) ≡ true
  tell_low code all low =
      list_all-append (tells (length others)) codes (code ∷ []) ∙ and_true all (and_true (lt-ltb code (others_from + length others) (omega (arith, low))) refl)

  -- another term more
  pub push_other : (term : Term) → list_all (tells (length others)) codes ≡ true
      → decoded (others ++ term ∷ []) 0 (codes ++ (others_from + length others) ∷ []) ≡ decoded others 0 codes ++ term ∷ []
  push_other term all =
      let code = others_from + length others in
      let place : length others ≡ code - others_from = omega arith in
      last_told (others ++ term ∷ []) codes code
      ∙ (λ i. decoded_more others term 0 codes all i ++ (told-other (others ++ term ∷ []) (length codes) code (omega arith) ∙ get_or_push others term (Step 0 false) _ place) i ∷ [])

  pub tell_other : (term : Term) → list_all (tells (length others)) codes ≡ true → list_all (tells (length (others ++ term ∷ []))) (codes ++ (others_from + length others) ∷ []) ≡ true
  tell_other term all =
      list_all-append (tells (length (others ++ term ∷ []))) codes _
      ∙ and_true (tell_more others codes term all)
      (and_true (lt-ltb (others_from + length others) (others_from + length (others ++ term ∷ [])) (omega (arith, length-append others (term ∷ [])))) refl)

  -- what is read at a number
  pub at_low : (n : ℕ) → n < length codes → get_or codes n 0 < others_from → slice_get (decoded others 0 codes) n ≡ Some (Seq (n - 1) (get_or codes n 0))
  at_low n within low = told_at others codes n within ∙ ap Some (told-low others n (get_or codes n 0) low)

  other_within : (n : ℕ) → list_all (tells (length others)) codes ≡ true → n < length codes → others_from ≤ get_or codes n 0 → get_or codes n 0 - others_from < length others
  other_within n all within high = elim (cases_Bool (tells (length others) (get_or codes n 0))) [
    | inl fits ↦ omega (arith, high, ltb-true (get_or codes n 0) (others_from + length others) fits)
    | inr none ↦ absurd (true≢false (sym all ∙ list_all_at (tells (length others)) codes n 0 within none))
  ]

  pub at_other : (n : ℕ) (d : Term) → list_all (tells (length others)) codes ≡ true → n < length codes → others_from ≤ get_or codes n 0
      → slice_get (decoded others 0 codes) n ≡ Some (get_or others (get_or codes n 0 - others_from) d)
  at_other n d all within high =
      told_at others codes n within
      ∙ ap Some
      (told-other others n (get_or codes n 0) high
      ∙ get_or_from_slice_get others (get_or codes n 0 - others_from) _ (Step 0 false)
      (slice_get-get_or others (get_or codes n 0 - others_from) d (other_within n all within high)))

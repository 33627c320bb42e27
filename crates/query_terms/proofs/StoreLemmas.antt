-- A store: a term that is there is found, and one that isn't goes last.
use Rattle.std.proofs.Common.{◌≡◌, ◌≢◌, ℕ, zero, suc, ◌+◌, ◌<◌, ◌≤◌, ◌⊎◌, true, List, [], ◌∷◌, ◌++◌, length, take, slice_get, get_or, Some, refl, sym, ap, subst, ◌∙◌, if◌then◌else◌, true≢false, arith, inl, inr}
use Rattle.std.proofs.lemmas.Bool.{cases_Bool, cases_lt, lt-ltb, le-ltb}
use Rattle.std.proofs.lemmas.List.{length-append, length-take-le, get_or_push, get_or_append_left, get_or-take}
use Rattle.std.proofs.lemmas.Option.{slice_get_within, slice_get-get_or, get_or_from_slice_get}
use Rattle.std.proofs.lemmas.List.Quantifiers.{all_pairs_push}
use Rattle.query_terms.specs.contracts.terms.TermPartialEq.TheImpl.{eq-value}
use Rattle.query_terms.specs.declared.terms.Term.{Term}
use Rattle.query_terms.specs.Store.{ChildrenBelow, IsStore, IsNumbered, is_term, number_of, put_of, terms_most}

-- the test of the code is that of the definition
pub same_test : (a b : Term) → eq-value.it a b ≡ is_term a b
same_test a b = grind arith

pub term_is : (a b : Term) → is_term a b ≡ true → a ≡ b
term_is a b = grind arith

pub is_term-self : (a : Term) → is_term a a ≡ true
is_term-self a = grind arith

number_of-most : (terms : List Term) (term : Term) → number_of terms term ≤ length terms
number_of-most [] term = omega arith
number_of-most (t ∷ terms) term = elim (cases_Bool (is_term term t)) [
  | inl hit ↦ rw hit (omega arith)
  | inr miss ↦ rw miss (omega (arith, number_of-most terms term))
]

pub number_of-there : (terms : List Term) (term d : Term) → number_of terms term < length terms → get_or terms (number_of terms term) d ≡ term
number_of-there [] term d within = absurd (omega (arith, within))
number_of-there (t ∷ terms) term d within = elim (cases_Bool (is_term term t)) [
  | inl hit ↦ rw hit (sym (term_is term t hit))
  | inr miss ↦ rw miss (number_of-there terms term d (omega (arith, (rw miss at within))))
]

-- no earlier term is the term
number_of-later : (terms : List Term) (term : Term) (k : ℕ) → k < number_of terms term → (d : Term) → get_or terms k d ≢ term
number_of-later [] term k before d = absurd (omega (arith, before))
number_of-later (t ∷ terms) term zero before d = elim (cases_Bool (is_term term t)) [
  | inl hit ↦ absurd (omega (arith, (rw hit at before)))
  | inr miss ↦ λ same. true≢false (sym (is_term-self term) ∙ ap (is_term term) (sym same) ∙ miss)
]
number_of-later (t ∷ terms) term (suc k) before d = elim (cases_Bool (is_term term t)) [
  | inl hit ↦ absurd (omega (arith, (rw hit at before)))
  | inr miss ↦ number_of-later terms term k (omega (arith, (rw miss at before))) d
]

number_of-absent : (terms : List Term) (term : Term) → length terms ≤ number_of terms term → (k : ℕ) (d : Term) → k < length terms → get_or terms k d ≢ term
number_of-absent terms term most k d within = number_of-later terms term k (omega (arith, most, within)) d

-- what stands in a list with a term more stands in the list, or is the term
pub push_cases : (terms : List Term) (term : Term) (n : ℕ) (x : Term) → slice_get (terms ++ term ∷ []) n ≡ Some x → (slice_get terms n ≡ Some x) ⊎ ((length terms ≡ n) × (term ≡ x))
push_cases terms term n x at = elim (cases_lt n (length terms)) [
  | inl less ↦ inl (slice_get-get_or terms n x less ∙ ap Some (sym (get_or_append_left terms (term ∷ []) x n less) ∙ value))
  | inr most ↦ let last : length terms ≡ n = omega (arith, most, within) in
      inr (last, sym (get_or_push terms term x n last) ∙ value)
]
  where
    value : get_or (terms ++ term ∷ []) n x ≡ x
    value = get_or_from_slice_get (terms ++ term ∷ []) n x x at

    within : n < length terms + 1
    within = rw (← length-append terms (term ∷ [])) (slice_get_within (terms ++ term ∷ []) n x at)

-- what stands in a list stands there with a term more
pub push_keeps : (terms : List Term) (term : Term) (n : ℕ) (x : Term) → slice_get terms n ≡ Some x → slice_get (terms ++ term ∷ []) n ≡ Some x
push_keeps terms term n x at =
    let less = slice_get_within terms n x at in
    slice_get-get_or (terms ++ term ∷ []) n x (rw (length-append terms (term ∷ [])) (omega (arith, less)))
    ∙ ap Some (get_or_append_left terms (term ∷ []) x n less ∙ get_or_from_slice_get terms n x x at)

-- what was pushed stands last
pub last_there : (terms : List Term) (term : Term) → slice_get (terms ++ term ∷ []) (length terms) ≡ Some term
last_there terms term =
    slice_get-get_or (terms ++ term ∷ []) (length terms) term (rw (length-append terms (term ∷ [])) (omega arith))
    ∙ ap Some (get_or_push terms term term (length terms) refl)

children-push : (terms : List Term) (term : Term) → IsStore terms → ChildrenBelow (length terms) term
    → (n : ℕ) (x : Term) → slice_get (terms ++ term ∷ []) n ≡ Some x → ChildrenBelow n x
children-push terms term is below n x at = elim (push_cases terms term n x at) [
  | inl earlier ↦ is.children n x earlier
  | inr last ↦ subst (ChildrenBelow n) last.1 (subst (λ k. ChildrenBelow k term) last.0 below)
]

-- a store with a new term at its end
pub store_push : (terms : List Term) (term : Term) → IsStore terms → ChildrenBelow (length terms) term → length terms ≤ number_of terms term → IsStore (terms ++ term ∷ [])
store_push terms term is below most = record {
  children = children-push terms term is below;
  differ = all_pairs_push (λ a b. a ≢ b) terms term is.differ (number_of-absent terms term most);
}

pub put_is_there : (terms : List Term) (term : Term) → number_of terms term < length terms → put_of terms term ≡ record { terms = terms; number = number_of terms term }
put_is_there terms term less = λ i. record { terms = if lt-ltb _ _ less i then terms else terms ++ term ∷ []; number = number_of terms term }

pub put_is_new : (terms : List Term) (term : Term) → length terms ≤ number_of terms term → put_of terms term ≡ record { terms = terms ++ term ∷ []; number = length terms }
put_is_new terms term most =
    let same : number_of terms term ≡ length terms = omega (arith, most, number_of-most terms term) in
    λ i. record { terms = if le-ltb _ _ most i then terms else terms ++ term ∷ []; number = same i }

-- the first place of a term that stands at a place is that place
number_of-at : (terms : List Term) (term : Term) (n : ℕ) → IsStore terms → n < length terms → get_or terms n term ≡ term → number_of terms term ≡ n
number_of-at terms term n is within at = elim (cases_lt (number_of terms term) n) [
  | inl before ↦ absurd (is.differ (number_of terms term) n term before within (number_of-there terms term term (omega (arith, before, within)) ∙ sym at))
  | inr after ↦ elim (cases_lt n (number_of terms term)) [
    | inl before ↦ absurd (number_of-later terms term n before term at)
    | inr same ↦ omega (arith, after, same)
  ]
]

-- a term that stands at a place is put by its place
pub put_found : (terms : List Term) (term : Term) (n : ℕ) → IsStore terms → slice_get terms n ≡ Some term → put_of terms term ≡ record { terms = terms; number = n }
put_found terms term n is at =
    let within = slice_get_within terms n term at in
    let same = number_of-at terms term n is within (get_or_from_slice_get terms n term term at) in
    put_is_there terms term (subst (λ k. k < length terms) (sym same) within) ∙ ap (λ k. record { terms = terms; number = k }) same

-- a store with a new term stays one that can number its terms
pub numbered_push : (terms : List Term) (term : Term) → IsNumbered terms → ChildrenBelow (length terms) term → length terms < terms_most → length terms ≤ number_of terms term → IsNumbered (terms ++ term ∷ [])
numbered_push terms term is below room most = record {
  store = store_push terms term is.store below most;
  few = rw (length-append terms (term ∷ [])) (omega (arith, room));
}

-- a term that stands nowhere is new
pub is_new : (terms : List Term) (term : Term) → ((n : ℕ) → slice_get terms n ≢ Some term) → length terms ≤ number_of terms term
is_new terms term nowhere = elim (cases_lt (number_of terms term) (length terms)) [
  | inl less ↦ absurd (nowhere (number_of terms term) (slice_get-get_or terms _ term less ∙ ap Some (number_of-there terms term term less)))
  | inr most ↦ most
]

-- the next term of a store is new to those before it
pub front_new : (terms : List Term) (k : ℕ) (term : Term) → IsStore terms → slice_get terms k ≡ Some term → length (take k terms) ≤ number_of (take k terms) term
front_new terms k term is at = is_new (take k terms) term (λ n earlier.
    let within = slice_get_within terms k term at in
    let before : n < k = omega (arith, slice_get_within (take k terms) n term earlier, length-take-le k terms (omega (arith, within))) in
    is.differ n k term before within
    (sym (get_or-take k terms n term before) ∙ (get_or_from_slice_get (take k terms) n term term earlier ∙ sym (get_or_from_slice_get terms k term term at))))

-- How a term is found again: right after its first part, or by its number.
use Rattle.std.proofs.Common.{◌≡◌, ◌≢◌, ℕ, ◌+◌, ◌<◌, ◌≤◌, Bool, true, false, List, [], ◌∷◌, ◌++◌, length, take, slice_get, Some, None, is_some, unwrap_or, refl, sym, ap, subst, ◌∙◌, if◌then◌else◌, true≢false, arith, inl, inr}
use Rattle.std.proofs.lemmas.Bool.{cases_Bool, eqb-true}
use Rattle.std.proofs.lemmas.List.{take_more}
use Rattle.std.proofs.lemmas.Option.{slice_get_within, get_or_from_slice_get}
use Rattle.std.specs.Map.{lookup}
use Rattle.query_terms.specs.contracts.terms.TermPartialEq.TheImpl.{eq-value}
use Rattle.query_terms.specs.declared.terms.Term.{Term}
use Rattle.query_terms.specs.declared.terms.Term.TheVariants.{Step, Seq, Alt, Star, Opt}
use Rattle.query_terms.specs.Store.{ChildrenBelow, IsStore, is_term, number_of, put_of, terms_most}
use Rattle.query_terms.specs.Index.{goes_on, IsIndexed}
use Rattle.query_terms.proofs.StoreLemmas.{same_test, term_is, is_term-self, put_is_new, push_cases, push_keeps, last_there, numbered_push, is_new, front_new}

none_some : {m : ℕ} → None ≡ Some m → ⊥
none_some h = true≢false (sym (ap is_some h))

some_same : {m n : ℕ} → Some m ≡ Some n → m ≡ n
some_same {m} h = ap (λ o. unwrap_or o m) h

-- the test of the code's map is that of the definition
pub lookup_same : (entries : List (Term × ℕ)) (term : Term) → lookup (eq-value.it term) entries ≡ lookup (is_term term) entries
lookup_same entries term = λ i. lookup (λ t. same_test term t i) entries

-- a key that is found stays so, and one that isn't is found by an entry more
push-there : (test : Term → Bool) (entries : List (Term × ℕ)) (term : Term) (n m : ℕ) → lookup test entries ≡ Some m → lookup test (entries ++ (term, n) ∷ []) ≡ Some m
push-there test [] term n m at = absurd (none_some at)
push-there test (e ∷ entries) term n m at = elim (cases_Bool (test e.0)) [
  | inl hit ↦ rw hit (rw hit at at)
  | inr miss ↦ rw miss (push-there test entries term n m (rw miss at at))
]

push-miss : (test : Term → Bool) (entries : List (Term × ℕ)) (term : Term) (n : ℕ) → test term ≡ false → lookup test (entries ++ (term, n) ∷ []) ≡ lookup test entries
push-miss test [] term n other = rw other refl
push-miss test (e ∷ entries) term n other = ap (λ r. if test e.0 then Some e.1 else r) (push-miss test entries term n other)

push-hit : (test : Term → Bool) (entries : List (Term × ℕ)) (term : Term) (n : ℕ) → test term ≡ true → lookup test entries ≡ None → lookup test (entries ++ (term, n) ∷ []) ≡ Some n
push-hit test [] term n same none = rw same refl
push-hit test (e ∷ entries) term n same none = elim (cases_Bool (test e.0)) [
  | inl hit ↦ absurd (none_some (sym (rw hit at none)))
  | inr miss ↦ rw miss (push-hit test entries term n same (rw miss at none))
]

-- a term that goes on at a number has a part that is no smaller than it would be before that number
no_child : (term : Term) (n k : ℕ) → goes_on term n ≡ true → ChildrenBelow k term → n ≤ k
no_child (Seq first second) n k next below = omega (arith, eqb-true (first + 1) n next, below.0)
no_child (Step label back) n k next below = absurd (true≢false (sym next))
no_child (Alt left right) n k next below = absurd (true≢false (sym next))
no_child (Star child) n k next below = absurd (true≢false (sym next))
no_child (Opt child) n k next below = absurd (true≢false (sym next))

-- no term stands at the end yet that goes on there
pub next_is_new : (terms : List Term) (term : Term) → IsStore terms → goes_on term (length terms) ≡ true → length terms ≤ number_of terms term
next_is_new terms term is next = is_new terms term (λ n at. absurd (omega (arith, no_child term (length terms) n next (is.children n term at), slice_get_within terms n term at)))

-- a term that neither goes on where it would stand nor has a number isn't there
pub unknown_is_new : (terms : List Term) (entries : List (Term × ℕ)) (term : Term) → IsIndexed terms entries
    → ((n : ℕ) → goes_on term n ≡ true → slice_get terms n ≢ Some term) → lookup (is_term term) entries ≡ None → length terms ≤ number_of terms term
unknown_is_new terms entries term is nowhere none = is_new terms term (λ n at. elim (cases_Bool (goes_on term n)) [
  | inl next ↦ nowhere n next at
  | inr other ↦ none_some (sym none ∙ is.whole n term at other)
])

-- a term more that goes on
pub indexed_next : (terms : List Term) (entries : List (Term × ℕ)) (term : Term) → IsIndexed terms entries → ChildrenBelow (length terms) term → length terms < terms_most
    → goes_on term (length terms) ≡ true → IsIndexed (terms ++ term ∷ []) entries
indexed_next terms entries term is below room next = record {
  numbered = numbered_push terms term is.numbered below room (next_is_new terms term is.numbered.store next);
  right = λ x n at. push_keeps terms term n x (is.right x n at);
  whole = λ n x at other. elim (push_cases terms term n x at) [
    | inl earlier ↦ is.whole n x earlier other
    | inr last ↦ absurd (true≢false (sym next ∙ ((λ i. goes_on (last.1 i) (last.0 i)) ∙ other)))
  ];
}

-- a term more that has its number
pub indexed_push : (terms : List Term) (entries : List (Term × ℕ)) (term : Term) → IsIndexed terms entries → ChildrenBelow (length terms) term → length terms < terms_most
    → length terms ≤ number_of terms term → lookup (is_term term) entries ≡ None → IsIndexed (terms ++ term ∷ []) (entries ++ (term, length terms) ∷ [])
indexed_push terms entries term is below room most none = record {
  numbered = numbered_push terms term is.numbered below room most;
  right = λ x n at. elim (cases_Bool (is_term x term)) [
    | inl same ↦ right-same x n same at
    | inr other ↦ push_keeps terms term n x (is.right x n (sym (push-miss (is_term x) entries term (length terms) other) ∙ at))
  ];
  whole = λ n x at other. elim (push_cases terms term n x at) [
    | inl earlier ↦ push-there (is_term x) entries term (length terms) n (is.whole n x earlier other)
    | inr last ↦ subst (λ y. lookup (is_term y) (entries ++ (term, length terms) ∷ []) ≡ Some n) last.1
        (push-hit (is_term term) entries term (length terms) (is_term-self term) none ∙ ap Some last.0)
  ];
}
  where
    right-same : (x : Term) (n : ℕ) → is_term x term ≡ true → lookup (is_term x) (entries ++ (term, length terms) ∷ []) ≡ Some n → slice_get (terms ++ term ∷ []) n ≡ Some x
    right-same x n same at =
        let is_x : term ≡ x = sym (term_is x term same) in
        let none_x : lookup (is_term x) entries ≡ None = subst (λ y. lookup (is_term y) entries ≡ None) is_x none in
        let last : length terms ≡ n = some_same (sym (push-hit (is_term x) entries term (length terms) same none_x) ∙ at) in
        (λ i. slice_get (terms ++ term ∷ []) (sym last i)) ∙ (last_there terms term ∙ ap Some is_x)

-- the first terms of a store and the next one are one more of them
pub front_put : (terms : List Term) (k : ℕ) (term : Term) → IsStore terms → slice_get terms k ≡ Some term → (put_of (take k terms) term).terms ≡ take (k + 1) terms
front_put terms k term is at =
    let within = slice_get_within terms k term at in
    ap (λ p. p.terms) (put_is_new (take k terms) term (front_new terms k term is at))
    ∙ (ap (λ t. take k terms ++ t ∷ []) (sym (get_or_from_slice_get terms k term term at)) ∙ sym (take_more terms k term within))

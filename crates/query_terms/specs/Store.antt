-- Terms, each kept once.
--   terms_most              a store has at most so many terms
--   ChildrenBelow n term    the children of a term are below a number
--   IsStore terms           no two terms are equal, and each comes after its children
--   is_term term other      the terms are the same
--   number_of terms term    the place of a term, or the number of the terms where it isn't there
--   Placed, put_of          a list of terms with the number of one of them, as putting it gives them
--   IsNumbered terms        a store of no more terms than can be numbered
use Rattle.std.specs.Prelude.{◌≡◌, ◌≢◌, ℕ, suc, ◌-◌, ◌^◌, ◌<◌, ◌≤◌, Bool, true, false, not, ◌==◌, ◌&&◌, if◌then◌else◌, nat_lt, List, [], ◌∷◌, ◌++◌, length, slice_get, Some, ⊤, AllPairs}
use Rattle.query_terms.specs.declared.terms.Term.{Term}
use Rattle.query_terms.specs.declared.terms.Term.TheVariants.{Step, Seq, Alt, Star, Opt}

-- numbers of terms are below it
abbrev pub terms_most : ℕ
terms_most = 2 ^ 32 - 1

-- each child of the term is below n
abbrev pub ChildrenBelow : ℕ → Term → Type 0
ChildrenBelow n (Step label back) = ⊤
ChildrenBelow n (Seq first second) = (first < n) × (second < n)
ChildrenBelow n (Alt left right) = (left < n) × (right < n)
ChildrenBelow n (Star child) = child < n
ChildrenBelow n (Opt child) = child < n

-- no two terms are equal, and the children of each have smaller numbers
pub record IsStore (terms : List Term) : Type 0 where
  pub children : (n : ℕ) (term : Term) → slice_get terms n ≡ Some term → ChildrenBelow n term
  pub differ : AllPairs (λ a b. a ≢ b) terms

-- two truth values are the same
abbrev pub same_bool : Bool → Bool → Bool
same_bool true b = b
same_bool false b = not b

-- two terms are the same
abbrev pub is_term : Term → Term → Bool
is_term (Step l b) (Step m c) = (l == m) && same_bool b c
is_term (Seq a b) (Seq c d) = (a == c) && (b == d)
is_term (Alt a b) (Alt c d) = (a == c) && (b == d)
is_term (Star a) (Star c) = a == c
is_term (Opt a) (Opt c) = a == c
is_term a b = false

-- how many terms stand before the first one that is this term
abbrev pub number_of : List Term → Term → ℕ
number_of [] term = 0
number_of (t ∷ terms) term = if is_term term t then 0 else suc (number_of terms term)

-- terms, and the number of one of them
pub record Placed : Type 0 where
  pub terms : List Term
  pub number : ℕ

-- a term that is there has its number and adds nothing; another one is added last
abbrev pub put_of : List Term → Term → Placed
put_of terms term = record {
  terms = if nat_lt (number_of terms term) (length terms) then terms else terms ++ term ∷ [];
  number = number_of terms term;
}

-- the terms of a store that can number them
pub record IsNumbered (terms : List Term) : Type 0 where
  pub store : IsStore terms
  pub few : length terms ≤ terms_most

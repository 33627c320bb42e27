-- Tables by their names, and one more of them.
use Rattle.std.proofs.Common.{◌≡◌, inl, inr, ℕ, Bool, true, false, bytes_eq, MatchBool, Some, List, ◌∷◌, refl}
use Rattle.std.proofs.lemmas.Bool.{MatchBool-at_true, MatchBool-at_false, cases_Bool}
use Rattle.std.proofs.lemmas.Slice.Eq.{bytes_eq-Decides}
use Rattle.sql_read.specs.Conditions.{Header, columns_of}
use Rattle.sql_mean.specs.Tables.{With}

-- ---- names

pub same_name : (name : List ℕ) → bytes_eq name name ≡ true
same_name name = (bytes_eq-Decides name name).1 refl

pub names_are : (name other : List ℕ) → bytes_eq name other ≡ true → name ≡ other
names_are name other same = (bytes_eq-Decides name other).0 same

pub other_name : (name other : List ℕ) → (name ≡ other → ⊥) → bytes_eq name other ≡ false
other_name name other differ = elim (cases_Bool (bytes_eq name other)) [ inl same ↦ absurd (differ (names_are name other same)) | inr not_same ↦ not_same ]

-- ---- the columns of one table more

pub columns_here : (h : Header) (hs : List Header) → columns_of (h ∷ hs) h.name ≡ Some h.columns
columns_here h hs = rw (same_name h.name) refl

pub columns_there : (h : Header) (hs : List Header) (name : List ℕ) → bytes_eq h.name name ≡ false → columns_of (h ∷ hs) name ≡ columns_of hs name
columns_there h hs name other = rw (other) refl

-- ---- the rows of one table more

pub choose : (P Q : Type 0) (b : Bool) → b ≡ true → P → MatchBool b P Q
choose P Q true is p = p
choose P Q false is p = cc

pub choose_else : (P Q : Type 0) (b : Bool) → b ≡ false → Q → MatchBool b P Q
choose_else P Q true is q = cc
choose_else P Q false is q = q

module _ (Has : List ℕ → List ℕ → Type 0) (name : List ℕ) (IsRow : List ℕ → Type 0) (row : List ℕ) where
  pub with_here : IsRow row → With Has name IsRow name row
  with_here is = choose (IsRow row) (Has name row) (bytes_eq name name) (same_name name) is

  pub from_here : With Has name IsRow name row → IsRow row
  from_here is = MatchBool-at_true (IsRow row) (Has name row) (same_name name) is

  pub with_there : (other : List ℕ) → bytes_eq name other ≡ false → Has other row → With Has name IsRow other row
  with_there other differ is = choose_else (IsRow row) (Has other row) (bytes_eq name other) differ is

  pub from_there : (other : List ℕ) → bytes_eq name other ≡ false → With Has name IsRow other row → Has other row
  from_there other differ is = MatchBool-at_false (IsRow row) (Has other row) differ is

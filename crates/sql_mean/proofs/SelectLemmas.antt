-- Selects from one table and from two, and unions of one select and of two.
use Rattle.std.proofs.Common.{◌≡◌, ◌⊎◌, inl, inr, ℕ, true, false, bytes_eq, Some, List, [], ◌∷◌, refl, sym, subst}
use Rattle.graph_text.proofs.MemberLemmas.{Contains-first, Contains-later, Contains-cases, Contains-none}
use Rattle.sql_read.specs.Grammar.{Col, Source, Query, Table}
use Rattle.sql_read.specs.Conditions.{Header, columns_of}
use Rattle.sql_mean.specs.Selects.{value_in, value_of, IsSelectRow, IsUnionRow}
use Rattle.sql_mean.specs.Tables.{takes_itself, IsStableRow, IsTableRow}
use Rattle.std.proofs.lemmas.Bool.{MatchBool-at_true, MatchBool-at_false}
use Rattle.sql_mean.proofs.NameLemmas.{choose, choose_else}

-- ---- the number in a column

-- of the first source
pub value_first : (headers : List Header) (s : Source) (ss : List Source) (row : List ℕ) (rows : List (List ℕ)) (c : Col) (columns : List (List ℕ)) → bytes_eq s.alias c.alias ≡ true
    → columns_of headers s.table ≡ Some columns → value_of headers (s ∷ ss) (row ∷ rows) c ≡ value_in columns row c.column
value_first headers s ss row rows c columns here are = rw (here, are) refl

-- of a later source
pub value_later : (headers : List Header) (s : Source) (ss : List Source) (row : List ℕ) (rows : List (List ℕ)) (c : Col) → bytes_eq s.alias c.alias ≡ false
    → value_of headers (s ∷ ss) (row ∷ rows) c ≡ value_of headers ss rows c
value_later headers s ss row rows c other = rw (other) refl

-- ---- unions

module _ (headers : List Header) (Has : List ℕ → List ℕ → Type 0) (row : List ℕ) where
  pub union_first : (q : Query) (qs : List Query) → IsSelectRow headers Has q row → IsUnionRow headers Has (q ∷ qs) row
  union_first q qs is = (q, Contains-first q qs, is)

  pub union_later : (q : Query) (qs : List Query) → IsUnionRow headers Has qs row → IsUnionRow headers Has (q ∷ qs) row
  union_later q qs is = (is.0, Contains-later q is.0 qs is.1, is.2)

  pub from_union : (q : Query) (qs : List Query) → IsUnionRow headers Has (q ∷ qs) row → IsSelectRow headers Has q row ⊎ IsUnionRow headers Has qs row
  from_union q qs is =
      elim (Contains-cases q is.0 qs is.1) [
        | inl same ↦ inl (subst (λ q. IsSelectRow headers Has q row) (sym same) is.2)
        | inr later ↦ inr (is.0, later, is.2)
      ]

  pub from_one : (q : Query) → IsUnionRow headers Has (q ∷ []) row → IsSelectRow headers Has q row
  from_one q is = elim (from_union q [] is) [ inl one ↦ one | inr none ↦ absurd (Contains-none none.0 none.1) ]

-- ---- tables that don't take from themselves

module _ (headers : List Header) (Has : List ℕ → List ℕ → Type 0) (t : Table) (row : List ℕ) where
  pub plain_row : takes_itself t ≡ false → IsUnionRow headers Has t.body row → IsTableRow headers Has t row
  plain_row plain is = choose_else (IsStableRow headers Has t row) (IsUnionRow headers Has t.body row) (takes_itself t) plain is

  pub from_plain : takes_itself t ≡ false → IsTableRow headers Has t row → IsUnionRow headers Has t.body row
  from_plain plain is = MatchBool-at_false (IsStableRow headers Has t row) (IsUnionRow headers Has t.body row) plain is

  pub round_row : takes_itself t ≡ true → IsStableRow headers Has t row → IsTableRow headers Has t row
  round_row takes is = choose (IsStableRow headers Has t row) (IsUnionRow headers Has t.body row) (takes_itself t) takes is

  pub from_rounds : takes_itself t ≡ true → IsTableRow headers Has t row → IsStableRow headers Has t row
  from_rounds takes is = MatchBool-at_true (IsStableRow headers Has t row) (IsUnionRow headers Has t.body row) takes is

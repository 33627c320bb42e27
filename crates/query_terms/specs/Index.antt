-- How the terms of a store are found again.
--   goes_on term n            a sequence whose first part has the number before n
--   IsIndexed terms entries   each term is found: right after its first part, or by its number
use Rattle.std.specs.Prelude.{◌≡◌, ℕ, ◌+◌, Bool, false, ◌==◌, List, slice_get, Some}
use Rattle.std.specs.Map.{lookup}
use Rattle.query_terms.specs.declared.terms.Term.{Term}
use Rattle.query_terms.specs.declared.terms.Term.TheVariants.{Step, Seq, Alt, Star, Opt}
use Rattle.query_terms.specs.Store.{is_term, IsNumbered}

-- a sequence that has this number stands right after its first part
abbrev pub goes_on : Term → ℕ → Bool
goes_on (Seq first second) n = first + 1 == n
goes_on (Step label back) n = false
goes_on (Alt left right) n = false
goes_on (Star child) n = false
goes_on (Opt child) n = false

-- a store, with the number of each term that doesn't stand right after its first part
pub record IsIndexed (terms : List Term) (entries : List (Term × ℕ)) : Type 0 where
  pub numbered : IsNumbered terms
  pub right : (term : Term) (n : ℕ) → lookup (is_term term) entries ≡ Some n → slice_get terms n ≡ Some term
  pub whole : (n : ℕ) (term : Term) → slice_get terms n ≡ Some term → goes_on term n ≡ false → lookup (is_term term) entries ≡ Some n

-- Terms with their numbers.
--   with_numbers n terms     each term with its number, from a number on
use Rattle.std.specs.Prelude.{ℕ, ◌+◌, List, [], ◌∷◌}
use Rattle.query_terms.specs.declared.terms.Term.{Term}

-- each term with its number, from a number on
abbrev pub with_numbers : ℕ → List Term → List (Term × ℕ)
with_numbers n [] = []
with_numbers n (term ∷ terms) = (term, n) ∷ with_numbers (n + 1) terms

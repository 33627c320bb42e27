-- Terms in a list that is small: most terms of a query are sequences that stand right after their first part, and are told
-- by the number of their second part.
--   others_from               this code and those after it name terms of a second list
--   told others n code        the term with a number, of which there is this code
--   decoded others n codes    the terms of codes, the first of which is that of a number
--   tells count code          the code is that of a sequence, or of one of so many other terms
use Rattle.std.specs.Prelude.{ℕ, ◌+◌, ◌-◌, Bool, false, if◌then◌else◌, nat_lt, List, [], ◌∷◌}
use Rattle.std.specs.List.{slice_index_or}
use Rattle.query_terms.specs.declared.terms.Term.{Term}
use Rattle.query_terms.specs.declared.terms.Term.TheVariants.{Step, Seq}

-- lesser codes are numbers of second parts
abbrev pub others_from : ℕ
others_from = 32768

-- the sequence of the term before it and the term that the code numbers, or else the other term at a place
abbrev pub told : List Term → ℕ → ℕ → Term
told others n code = if nat_lt code others_from then Seq (n - 1) code else slice_index_or others (code - others_from) (Step 0 false)

-- the term of each code
abbrev pub decoded : List Term → ℕ → List ℕ → List Term
decoded others n [] = []
decoded others n (code ∷ codes) = told others n code ∷ decoded others (n + 1) codes

-- a code that names another term names one that there is
abbrev pub tells : ℕ → ℕ → Bool
tells count code = nat_lt code (others_from + count)

-- Runs over states: letters carry a state to a state, one letter after another.
--   Runs Carries word s t                 the letters of a word carry state s to state t
--   HasRun Carries n Meets s              some word of n letters carries s to a state that meets a goal
--   can_run step letters meets n s        the test for it, where a letter carries a state to one state at most
use Rattle.std.specs.Prelude.{◌≡◌, ℕ, zero, suc, Bool, false, Option, Some, None, List, [], ◌∷◌, length}
use Rattle.std.specs.List.{list_any}

-- the letters of a word carry state s to state t, one after another
abbrev pub Runs : {A C : Type 0} → (A → C → A → Type 0) → List C → A → A → Type 0
Runs Carries [] s t = s ≡ t
Runs {A} Carries (c ∷ word) s t = (u : A) × Carries s c u × Runs Carries word u t

-- some word of n letters carries s to a state that meets the goal
pub record HasRun {A C : Type 0} (Carries : A → C → A → Type 0) (n : ℕ) (Meets : A → Type 0) (s : A) : Type 0 where
  pub word : List C
  pub long : length word ≡ n
  pub end : A
  pub runs : Runs Carries word s end
  pub meets : Meets end

-- whether there is a value, and it passes
abbrev pub some_passes : {A : Type 0} → (A → Bool) → Option A → Bool
some_passes passes None = false
some_passes passes (Some a) = passes a

-- whether some n of the letters carry s to a state that passes: the first of them, and then the others
unfoldable pub can_run : {A C : Type 0} → (A → C → Option A) → List C → (A → Bool) → ℕ → A → Bool
can_run step letters passes zero s = passes s
can_run step letters passes (suc n) s = list_any (λ c. some_passes (can_run step letters passes n) (step s c)) letters

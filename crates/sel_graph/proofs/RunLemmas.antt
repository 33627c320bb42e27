-- Where a test decides what a letter does, `can_run` decides whether there is a run.
use Rattle.std.proofs.Common.{◌≡◌, ◌↔◌, ℕ, zero, suc, Bool, true, Option, Some, None, List, [], ◌∷◌, length, refl, ap}
use Rattle.std.specs.List.{list_any, Contains}
use Rattle.std.proofs.lemmas.Bool.{false≢true}
use Rattle.std.proofs.lemmas.List.Folds.{Any-from_list_any, list_any-from_Any}
use Rattle.sel_graph.specs.Runs.{Runs, HasRun, can_run, some_passes}

pub can_run-none : {A C : Type 0} (step : A → C → Option A) (letters : List C) (passes : A → Bool) (s : A) → can_run step letters passes zero s ≡ passes s
unfolding can_run
can_run-none step letters passes s = refl

pub can_run-more : {A C : Type 0} (step : A → C → Option A) (letters : List C) (passes : A → Bool) (n : ℕ) (s : A)
    → can_run step letters passes (suc n) s ≡ list_any (λ c. some_passes (can_run step letters passes n) (step s c)) letters
unfolding can_run
can_run-more step letters passes n s = refl

-- a test decides what each of the letters does, and whether a goal is met
pub record Decide {A C : Type 0} (step : A → C → Option A) (letters : List C) (passes : A → Bool) (Carries : A → C → A → Type 0) (Meets : A → Type 0) : Type 0 where
  pub sound : (s : A) (c : C) (u : A) → Contains letters c → step s c ≡ Some u → Carries s c u
  pub letter : (s : A) (c : C) (u : A) → Carries s c u → Contains letters c
  pub complete : (s : A) (c : C) (u : A) → Carries s c u → step s c ≡ Some u
  pub met : (s : A) → passes s ≡ true → Meets s
  pub passed : (s : A) → Meets s → passes s ≡ true

-- the value of an option that has one, which passes
pub some_passed : {A : Type 0} (passes : A → Bool) (o : Option A) → some_passes passes o ≡ true → (u : A) × (o ≡ Some u) × (passes u ≡ true)
some_passed passes None h = absurd (false≢true h)
some_passed passes (Some u) h = (u, refl, h)

-- one of the letters from which a run of n more goes on, if there is a run of n + 1
pub first_letter : {A C : Type 0} (step : A → C → Option A) (letters : List C) (passes : A → Bool) (n : ℕ) (s : A) → can_run step letters passes (suc n) s ≡ true
    → (c : C) × Contains letters c × ((u : A) × (step s c ≡ Some u) × (can_run step letters passes n u ≡ true))
first_letter step letters passes n s h =
    let (k, c, inside, here, passed) = Any-from_list_any (λ c. some_passes (can_run step letters passes n) (step s c)) letters (rw (can_run-more step letters passes n s) at h) in
    (c, (k, inside, here), some_passed (can_run step letters passes n) (step s c) passed)

pub run_exists : {A C : Type 0} {step : A → C → Option A} {letters : List C} {passes : A → Bool} {Carries : A → C → A → Type 0} {Meets : A → Type 0}
    → Decide step letters passes Carries Meets → (n : ℕ) (s : A) → can_run step letters passes n s ≡ true → HasRun Carries n Meets s
run_exists {step = step} {letters = letters} {passes = passes} d zero s h =
    record { word = []; long = refl; end = s; runs = refl; meets = d.met s (rw (can_run-none step letters passes s) at h) }
run_exists {step = step} {letters = letters} {passes = passes} d (suc n) s h =
    let (c, has, (u, leads, more)) = first_letter step letters passes n s h in
    let rest = run_exists d n u more in
    record { word = c ∷ rest.word; long = ap suc rest.long; end = rest.end; runs = (u, d.sound s c u has leads, rest.runs); meets = rest.meets }

run_tested : {A C : Type 0} {step : A → C → Option A} {letters : List C} {passes : A → Bool} {Carries : A → C → A → Type 0} {Meets : A → Type 0}
    → Decide step letters passes Carries Meets → (s t : A) (word : List C) → Runs Carries word s t → Meets t → can_run step letters passes (length word) s ≡ true
run_tested {step = step} {letters = letters} {passes = passes} d s t [] same meets = rw (can_run-none step letters passes s, same) (d.passed t meets)
run_tested {step = step} {letters = letters} {passes = passes} d s t (c ∷ word) (u, carries, runs) meets =
    let (k, inside, here) = d.letter s c u carries in
    let on : some_passes (can_run step letters passes (length word)) (step s c) ≡ true = rw (d.complete s c u carries) (run_tested d u t word runs meets) in
    rw (can_run-more step letters passes (length word) s)
    (list_any-from_Any (λ x. some_passes (can_run step letters passes (length word)) (step s x)) letters (k, c, inside, here, on))

-- the test is true exactly where there is a run
pub run_decided : {A C : Type 0} {step : A → C → Option A} {letters : List C} {passes : A → Bool} {Carries : A → C → A → Type 0} {Meets : A → Type 0}
    → Decide step letters passes Carries Meets → (n : ℕ) (s : A) → (can_run step letters passes n s ≡ true) ↔ HasRun Carries n Meets s
run_decided {step = step} {letters = letters} {passes = passes} d n s =
    (run_exists d n s, λ run. rw (← run.long) (run_tested d s run.end run.word run.runs run.meets))

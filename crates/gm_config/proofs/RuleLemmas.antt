-- Tests on the elements of a list, and on those of the values that they stand for.
use Rattle.std.proofs.Common.{zero, suc, ◌≡◌, ℕ, Bool, true, false, not, cond, ◌+◌, List, [], ◌∷◌, map, take, slice_get, get_or, length, ◌<◌, ◌≤◌, Option, Some, None, All, AllPairs, refl, sym, ap, ◌∙◌, arith}
use Rattle.std.proofs.lemmas.List.{take-map, length-map, length-take, get_or-take, get_or-map}
use Rattle.std.proofs.lemmas.List.Folds.{list_any_at}
use Rattle.std.proofs.lemmas.List.FromFn.{length-range_with_len, get_or-range_with_len}
use Rattle.std.proofs.lemmas.Option.{slice_get-map, slice_get-get_or, slice_get_past}
use Rattle.std.specs.List.{list_any, find, prefix_len, position, range_with_len}
use Rattle.gm_config.specs.Rule.{first_failing, holds_at, differs_at}
use Rattle.gm_config.specs.Config.{AllDiffer}
use Rattle.gm_config.proofs.ListLemmas.{list_any-map}

-- the element is there
pub differs_at-within : {A B : Type 0} (same : B → B → Bool) (v : A → B) (xs : List A) (ys : List B) (i : ℕ) (x : A) → map v xs ≡ ys → i < length xs → x ≡ get_or xs i x
    → differs_at same ys i ≡ not (list_any (λ z. same (v x) (v z)) (take i xs))
differs_at-within same v xs ys i x e within is =
    let there : slice_get xs i ≡ Some x = slice_get-get_or xs i x within ∙ ap Some (sym is) in
    rw (← e, slice_get-map, there, take-map, list_any-map)

-- the place is past the end
pub differs_at-past : {A B : Type 0} (same : B → B → Bool) (v : A → B) (xs : List A) (ys : List B) (i : ℕ) → map v xs ≡ ys → length xs ≤ i → differs_at same ys i ≡ false
differs_at-past same v xs ys i e past = rw (← e, slice_get-map, slice_get_past xs i past)

prefix_len-map : {A B : Type 0} (test : B → Bool) (v : A → B) (xs : List A) → prefix_len test (map v xs) ≡ prefix_len (λ x. test (v x)) xs
prefix_len-map test v [] = refl
prefix_len-map test v (x ∷ xs) = ap (λ n. cond (test (v x)) (1 + n) 0) (prefix_len-map test v xs)

pub position-map : {A B : Type 0} (test : B → Bool) (v : A → B) (xs : List A) → position test (map v xs) ≡ position (λ x. test (v x)) xs
position-map test v xs = rw (length-map xs v, prefix_len-map (λ x. not (test x)) v xs)

first_is_not : {X : Type 0} (b : Bool) (x : X) (rest : Option X) → cond b (Some x) rest ≡ None → (b ≡ false) × (rest ≡ None)
first_is_not true x rest none = absurd (cc)
first_is_not false x rest none = (refl, none)

find-none : {X : Type 0} (test : X → Bool) (xs : List X) → find test xs ≡ None → (k : ℕ) (d : X) → k < length xs → test (get_or xs k d) ≡ false
find-none test [] none k d h = absurd (omega arith)
find-none test (x ∷ xs) none zero d h = (first_is_not (test x) x _ none).0
find-none test (x ∷ xs) none (suc k) d h = find-none test xs (first_is_not (test x) x _ none).1 k d (omega arith)

pub not-false : (b : Bool) → not b ≡ false → b ≡ true
not-false true e = refl
not-false false e = absurd (cc)

-- where a test fails at no index, it holds at each
pub first_failing-none : (test : ℕ → Bool) (n : ℕ) → first_failing test n ≡ None → (i : ℕ) → i < n → test i ≡ true
first_failing-none test n none i h =
    let within : i < length (range_with_len 0 n) = rw length-range_with_len h in
    let here : get_or (range_with_len 0 n) i 0 ≡ i = get_or-range_with_len 0 n i 0 h ∙ omega arith in
    not-false (test i) (rw here at (find-none (λ k. not (test k)) (range_with_len 0 n) none i 0 within))

-- where no element fails a test, each passes
pub All-holds_at : {A : Type 0} (test : A → Bool) (xs : List A) → first_failing (holds_at test xs) (length xs) ≡ None → All (λ x. test x ≡ true) xs
All-holds_at test xs none k d h = rw (slice_get-get_or xs k d h) at (first_failing-none (holds_at test xs) (length xs) none k h)

pub not-true : (b : Bool) → b ≡ true → not b ≡ true → ⊥
not-true true e n = absurd (cc)
not-true false e n = absurd (cc)

apart : (p any : Bool) → (p ≡ true → any ≡ true) → not any ≡ true → p ≡ false
apart true any found none = absurd (not-true any (found refl) none)
apart false any found none = refl

-- where each element differs from the earlier ones, no two are the same
pub AllPairs-differs_at : {A : Type 0} (same : A → A → Bool) (xs : List A) → first_failing (differs_at same xs) (length xs) ≡ None → AllPairs (λ x y. same y x ≡ false) xs
AllPairs-differs_at same xs none i j d less h =
    let differs = rw (slice_get-get_or xs j d h) at (first_failing-none (differs_at same xs) (length xs) none j h) in
    let within : i < length (take j xs) = rw length-take (omega arith) in
    apart _ _ (λ e. list_any_at (same (get_or xs j d)) (take j xs) i d within (rw (get_or-take j xs i d less) e)) differs

-- elements of which no two are the same have different values
pub AllDiffer-map : {A B : Type 0} (f : A → B) (same : A → A → Bool) (P : A → Type 0) (xs : List A) (x : A)
    → ((a b : A) → P a → P b → f a ≡ f b → same b a ≡ true) → All P xs → AllPairs (λ a b. same b a ≡ false) xs → AllDiffer (map f xs)
AllDiffer-map f same P xs x tells each differ i j d less h e =
    let last : j < length xs = rw (length-map xs f) at h in
    let first : i < length xs = omega arith in
    let alike : f (get_or xs i x) ≡ f (get_or xs j x) = sym (get_or-map f xs i x d first) ∙ e ∙ get_or-map f xs j x d last in
    let is = tells (get_or xs i x) (get_or xs j x) (each i x first) (each j x last) alike in
    absurd (cc (is, differ i j x less last))

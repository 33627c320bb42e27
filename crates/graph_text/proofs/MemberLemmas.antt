-- Members of lists: of what is joined, mapped and tested.
use Rattle.std.proofs.Common.{◌≡◌, ◌<◌, ◌⊎◌, inl, inr, ℕ, zero, suc, Bool, true, List, [], ◌∷◌, ◌++◌, length, map, refl, sym, ap, subst, ◌∙◌, arith}
use Rattle.std.specs.List.{Contains, flat_map, list_any, list_all, slice_index_or}
use Rattle.std.proofs.lemmas.Bool.{or_left, or_right, or_cases, and_parts, and_from}

-- ---- the members of a list: its first one, and those of the rest

pub Contains-first : {X : Type 0} (x : X) (xs : List X) → Contains (x ∷ xs) x
Contains-first x xs = (0, omega arith, refl)

pub Contains-later : {X : Type 0} (x y : X) (xs : List X) → Contains xs y → Contains (x ∷ xs) y
Contains-later x y xs has = (suc has.0, omega (arith, has.1), has.2)

pub Contains-cases : {X : Type 0} (x y : X) (xs : List X) → Contains (x ∷ xs) y → (x ≡ y) ⊎ Contains xs y
Contains-cases {X = X} x y xs has = go has.0 has.1 has.2 where
  go : (k : ℕ) → k < suc (length xs) → slice_index_or (x ∷ xs) k y ≡ y → (x ≡ y) ⊎ Contains xs y
  go zero less at = inl at
  go (suc k) less at = inr (k, omega (arith, less), at)

pub Contains-none : {X : Type 0} (x : X) → Contains [] x → ⊥
Contains-none x has = omega (arith, has.1)

-- the first list's members, and then the second one's
pub Contains-append_left : {X : Type 0} (xs ys : List X) (x : X) → Contains xs x → Contains (xs ++ ys) x
Contains-append_left [] ys x has = absurd (Contains-none x has)
Contains-append_left (z ∷ xs) ys x has =
    elim (Contains-cases z x xs has) [
      | inl same ↦ (0, omega arith, same)
      | inr later ↦ Contains-later z x (xs ++ ys) (Contains-append_left xs ys x later)
    ]

pub Contains-append_right : {X : Type 0} (xs ys : List X) (y : X) → Contains ys y → Contains (xs ++ ys) y
Contains-append_right [] ys y has = has
Contains-append_right (x ∷ xs) ys y has = Contains-later x y (xs ++ ys) (Contains-append_right xs ys y has)

pub Contains-append_cases : {X : Type 0} (xs ys : List X) (z : X) → Contains (xs ++ ys) z → Contains xs z ⊎ Contains ys z
Contains-append_cases [] ys z has = inr has
Contains-append_cases (x ∷ xs) ys z has =
    elim (Contains-cases x z (xs ++ ys) has) [
      | inl same ↦ inl (0, omega arith, same)
      | inr later ↦ elim (Contains-append_cases xs ys z later) [ inl one ↦ inl (Contains-later x z xs one) | inr other ↦ inr other ]
    ]

-- the members of a list of lists that are joined
pub Contains-flat_map : {X Y : Type 0} (f : X → List Y) (xs : List X) (x : X) (y : Y) → Contains xs x → Contains (f x) y → Contains (flat_map f xs) y
Contains-flat_map {Y = Y} f [] x y has within = absurd (Contains-none x has)
Contains-flat_map {Y = Y} f (z ∷ xs) x y has within =
    elim (Contains-cases z x xs has) [
      | inl same ↦ Contains-append_left (f z) (flat_map f xs) y (subst (λ w. Contains (f w) y) (sym same) within)
      | inr later ↦ Contains-append_right (f z) (flat_map f xs) y (Contains-flat_map f xs x y later within)
    ]

pub Contains-from_flat_map : {X Y : Type 0} (f : X → List Y) (xs : List X) (y : Y) → Contains (flat_map f xs) y → (x : X) × Contains xs x × Contains (f x) y
Contains-from_flat_map f [] y has = absurd (Contains-none y has)
Contains-from_flat_map f (z ∷ xs) y has =
    elim (Contains-append_cases (f z) (flat_map f xs) y has) [
      | inl here ↦ (z, Contains-first z xs, here)
      | inr later ↦ let found = Contains-from_flat_map f xs y later in (found.0, Contains-later z found.0 xs found.1, found.2)
    ]

-- a test finds a member
pub list_any-Contains : {X : Type 0} (test : X → Bool) (xs : List X) (x : X) → Contains xs x → test x ≡ true → list_any test xs ≡ true
list_any-Contains test [] x has passes = absurd (Contains-none x has)
list_any-Contains test (z ∷ xs) x has passes =
    elim (Contains-cases z x xs has) [
      | inl same ↦ or_left (test z) (list_any test xs) (ap test same ∙ passes)
      | inr later ↦ or_right (test z) (list_any test xs) (list_any-Contains test xs x later passes)
    ]

pub Contains-list_any : {X : Type 0} (test : X → Bool) (xs : List X) → list_any test xs ≡ true → (x : X) × Contains xs x × (test x ≡ true)
Contains-list_any test [] passes = cc
Contains-list_any test (z ∷ xs) passes =
    elim (or_cases (test z) (list_any test xs) passes) [
      | inl here ↦ (z, Contains-first z xs, here)
      | inr later ↦ let found = Contains-list_any test xs later in (found.0, Contains-later z found.0 xs found.1, found.2)
    ]

-- what is made of the members
pub Contains-map : {X Y : Type 0} (f : X → Y) (xs : List X) (x : X) → Contains xs x → Contains (map f xs) (f x)
Contains-map f [] x has = absurd (Contains-none x has)
Contains-map f (z ∷ xs) x has =
    elim (Contains-cases z x xs has) [
      | inl same ↦ (0, omega arith, ap f same)
      | inr later ↦ Contains-later (f z) (f x) (map f xs) (Contains-map f xs x later)
    ]

pub Contains-from_map : {X Y : Type 0} (f : X → Y) (xs : List X) (y : Y) → Contains (map f xs) y → (x : X) × Contains xs x × (f x ≡ y)
Contains-from_map f [] y has = absurd (Contains-none y has)
Contains-from_map f (z ∷ xs) y has =
    elim (Contains-cases (f z) y (map f xs) has) [
      | inl same ↦ (z, Contains-first z xs, same)
      | inr later ↦ let found = Contains-from_map f xs y later in (found.0, Contains-later z found.0 xs found.1, found.2)
    ]

-- all members pass a test
pub list_all-member : {X : Type 0} (test : X → Bool) (xs : List X) → list_all test xs ≡ true → (x : X) → Contains xs x → test x ≡ true
list_all-member test [] all x has = absurd (Contains-none x has)
list_all-member test (z ∷ xs) all x has =
    let parts = and_parts (test z) (list_all test xs) all in
    elim (Contains-cases z x xs has) [
      | inl same ↦ ap test (sym same) ∙ parts.0
      | inr later ↦ list_all-member test xs parts.1 x later
    ]

pub list_all-from_members : {X : Type 0} (test : X → Bool) (xs : List X) → ((x : X) → Contains xs x → test x ≡ true) → list_all test xs ≡ true
list_all-from_members test [] each = refl
list_all-from_members test (z ∷ xs) each =
    and_from (test z) (list_all test xs) (each z (Contains-first z xs)) (list_all-from_members test xs (λ x has. each x (Contains-later z x xs has)))

-- What a word picks: from any list, from what passes a test, from a mapped list, and from a list or others.
use Rattle.std.proofs.Common.{◌≡◌, ◌≢◌, ◌↔◌, ◌<◌, ◌+◌, ◌^◌, ◌∙◌, ℕ, zero, suc, Bool, true, false, Some, None, List, [], ◌∷◌, ◌++◌, if◌then◌else◌, length, map, slice_index_or, inl, inr, refl, sym, ap, arith, rules}
use Rattle.std.specs.List.{All, slice_get, filter, list_any, range_with_len}
use Rattle.std.specs.Option.{IfSome, IsNone, option_map}
use Rattle.std.proofs.lemmas.Bool.{cases_Bool, true≢false}
use Rattle.std.proofs.lemmas.List.{length-map, map-id, ext_get_or}
use Rattle.std.proofs.lemmas.List.Elements.{All-filter, All-from_get_or, All-get_or, filter_passes}
use Rattle.std.proofs.lemmas.List.FromFn.{length-range_with_len, get_or-range_with_len, length-map-range_with_len, get_or-map-range_with_len, filter_of_map_range_with_len_more}
use Rattle.std.proofs.lemmas.Option.{slice_get-map, slice_get-get_or, slice_get_within, slice_get_cases, get_or_from_slice_get, none-some}
use Rattle.seeded_draw.specs.Draw.{pick_of}
use Rattle.candidates.specs.Picked.{picked, numbers_that, or_others}

-- where no candidate passes, what passes is empty
pub filter_none : {X : Type 0} (p : X → Bool) (xs : List X) → list_any p xs ≡ false → filter p xs ≡ []
filter_none p [] none = refl
filter_none p (x ∷ xs) none = elim (cases_Bool (p x)) [
  | inl hit ↦ let never : true ≡ false = rw hit at none in cc
  | inr miss ↦ rw miss (filter_none p xs (rw miss at none))
]

-- where what passes is empty, no candidate passes
pub none_passes : {X : Type 0} (p : X → Bool) (xs : List X) → filter p xs ≡ [] → list_any p xs ≡ false
none_passes p [] none = refl
none_passes p (x ∷ xs) none = elim (cases_Bool (p x)) [
  | inl hit ↦ let never : x ∷ filter p xs ≡ [] = rw hit at none in cc
  | inr miss ↦ rw miss (none_passes p xs (rw miss at none))
]

-- where some candidate passes, what passes is not empty
pub filter_some : {X : Type 0} (p : X → Bool) (xs : List X) → list_any p xs ≡ true → filter p xs ≢ []
filter_some p xs any none = let never : true ≡ false = sym any ∙ none_passes p xs none in cc

-- the place that a word picks is one of the places
pub pick_of-below : (w m : ℕ) → w < 2 ^ 64 → 0 < m → pick_of w m < m
pick_of-below w m word some = grind arith

-- of a list that is not empty, a word picks one
pub picked_from_cons : {X : Type 0} (w : ℕ) (x : X) (xs : List X) → w < 2 ^ 64 → (y : X) × (picked w (x ∷ xs) ≡ Some y)
picked_from_cons w x xs word = (_, slice_get-get_or (x ∷ xs) (pick_of w (length (x ∷ xs))) x (pick_of-below w (length (x ∷ xs)) word (omega arith)))

-- where a word picks none, there is none
pub picked-none : {X : Type 0} (w : ℕ) (xs : List X) → w < 2 ^ 64 → picked w xs ≡ None → xs ≡ []
picked-none w [] word none = refl
picked-none w (x ∷ xs) word none = let some = picked_from_cons w x xs word in absurd (none-some some.0 (sym none ∙ some.1))

-- of no candidates a word picks none
pub picked-nil : {X : Type 0} (w : ℕ) → picked {X = X} w [] ≡ None
picked-nil w = refl

-- where one word picks none, each picks none
pub picked_none_for_all : {X : Type 0} (w v : ℕ) (xs : List X) → w < 2 ^ 64 → picked w xs ≡ None → picked v xs ≡ None
picked_none_for_all w v xs word none = ap (picked v) (picked-none w xs word none)

-- what holds of each item holds of the one at a place
pub at_slice_get : {X : Type 0} (P : X → Type 0) (xs : List X) (i : ℕ) (x : X) → All P xs → slice_get xs i ≡ Some x → P x
at_slice_get P xs i x all is =
    let here = All-get_or P xs i x (slice_get_within xs i x is) all in
    rw (get_or_from_slice_get xs i x x is) at here

-- what is picked of what passes does pass
pub picked_passes : {X : Type 0} (w : ℕ) (p : X → Bool) (xs : List X) (x : X) → picked w (filter p xs) ≡ Some x → p x ≡ true
picked_passes w p xs x is = at_slice_get (λ y. p y ≡ true) (filter p xs) _ x (filter_passes p xs) is

-- where some candidate passes, each word picks one that does
pub picked_some : {X : Type 0} (w : ℕ) (p : X → Bool) (xs : List X) → w < 2 ^ 64 → list_any p xs ≡ true
    → (x : X) × (picked w (filter p xs) ≡ Some x) × (p x ≡ true)
picked_some w p xs word any = elim (slice_get_cases (filter p xs) (pick_of w (length (filter p xs)))).1 [
  | inl (x, within, is, same) ↦ (x, is, picked_passes w p xs x is)
  | inr (past, none) ↦ absurd (filter_some p xs any (picked-none w (filter p xs) word none))
]

-- the numbers from 0 are below their number
range_with_len-below : (n : ℕ) → All (λ i. i < n) (range_with_len 0 n)
range_with_len-below n = All-from_get_or (λ i. i < n) (range_with_len 0 n) 0 (λ i inside.
    let within : i < n = rw (length-range_with_len 0 n) at inside in
    rw (get_or-range_with_len 0 n i 0 within) (omega arith))

-- the number that stands at a place of those below n that pass is below n, and passes
pub numbers_that-at : (p : ℕ → Bool) (n place : ℕ) → IfSome (slice_get (numbers_that p n) place) (λ i. (i < n) × (p i ≡ true))
numbers_that-at p n place = elim (slice_get_cases (numbers_that p n) place).1 [
  | inl (x, within, is, same) ↦ rw is
      (at_slice_get (λ i. i < n) _ place x (All-filter p (λ i. i < n) _ (range_with_len-below n)) is, at_slice_get (λ i. p i ≡ true) _ place x (filter_passes p _) is)
  | inr (past, none) ↦ rw none (search rules)
]

-- of one number more, those that pass are the others and maybe it
pub numbers_that-more : (p : ℕ → Bool) (n : ℕ) (b : Bool) → b ≡ p n → numbers_that p (n + 1) ≡ numbers_that p n ++ (if b then n ∷ [] else [])
numbers_that-more p n b is =
    ap (filter p) (sym (map-id (range_with_len 0 (n + 1))))
    ∙ (filter_of_map_range_with_len_more p (λ x. x) 0 n n (omega arith)
    ∙ (λ k. filter p (map-id (range_with_len 0 n) k) ++ (if sym is k then n ∷ [] else [])))

-- a pick from a mapped list is the pick, mapped
pub picked-map : {X Y : Type 0} (w : ℕ) (f : X → Y) (xs : List X) → picked w (map f xs) ≡ option_map f (picked w xs)
picked-map w f xs = rw (length-map xs f) (slice_get-map f xs _)

-- what passes of a mapped list is mapped from what passes there
pub filter-map : {X Y : Type 0} (p : Y → Bool) (f : X → Y) (xs : List X) → filter p (map f xs) ≡ map f (filter (λ x. p (f x)) xs)
filter-map p f [] = refl
filter-map p f (x ∷ xs) = elim (cases_Bool (p (f x))) [
  | inl hit ↦ rw hit (ap (◌∷◌ (f x)) (filter-map p f xs))
  | inr miss ↦ rw miss (filter-map p f xs)
]

-- a pick of what passes among numbered candidates goes by the numbers
pub picked_numbered : {X : Type 0} (w : ℕ) (p : X → Bool) (f : ℕ → X) (n : ℕ)
    → picked w (filter p (map f (range_with_len 0 n))) ≡ option_map f (picked w (numbers_that (λ i. p (f i)) n))
picked_numbered w p f n = ap (picked w) (filter-map p f _) ∙ picked-map w f _

-- the numbers from `least + a` are those from `a`, moved up
range_with_len-shifted : (least a n : ℕ) → range_with_len (least + a) n ≡ map (λ i. least + i) (range_with_len a n)
range_with_len-shifted least a zero = refl
range_with_len-shifted least a (suc n) = ap (◌∷◌ (least + a)) (ap (λ b. range_with_len b n) (omega arith) ∙ range_with_len-shifted least (a + 1) n)

-- the numbers from a least one are those from 0, moved up
pub range_with_len-from : (least n : ℕ) → range_with_len least n ≡ map (λ i. least + i) (range_with_len 0 n)
range_with_len-from least n = ap (λ b. range_with_len b n) (omega arith) ∙ range_with_len-shifted least 0 n

-- a pick of what passes among the numbers from a least one goes by the numbers from 0
pub picked_from_least : (w : ℕ) (p : ℕ → Bool) (least n : ℕ)
    → picked w (filter p (range_with_len least n)) ≡ option_map (λ i. least + i) (picked w (numbers_that (λ i. p (least + i)) n))
picked_from_least w p least n = ap (λ xs. picked w (filter p xs)) (range_with_len-from least n) ∙ picked_numbered w p (λ i. least + i) n

-- what is picked from a list is picked from it or others
pub picked_or_others : {X : Type 0} (w : ℕ) (xs ys : List X) (x : X) → picked w xs ≡ Some x → picked w (or_others xs ys) ≡ Some x
picked_or_others w [] ys x is = absurd (none-some x is)
picked_or_others w (z ∷ xs) ys x is = is

-- where none is picked from a list, the pick is from the others
pub picked_others : {X : Type 0} (w : ℕ) (xs ys : List X) → w < 2 ^ 64 → picked w xs ≡ None → picked w (or_others xs ys) ≡ picked w ys
picked_others w xs ys word none = ap (λ zs. picked w (or_others zs ys)) (picked-none w xs word none)

-- a list or others is empty where both are
pub or_others_nil : {X : Type 0} (xs ys : List X) → xs ≡ [] → ys ≡ [] → or_others xs ys ≡ []
or_others_nil xs ys left right = rw (left, right) refl

-- both are empty where a list or others is
pub nil_from_or_others : {X : Type 0} (xs ys : List X) → or_others xs ys ≡ [] → (xs ≡ []) × (ys ≡ [])
nil_from_or_others [] ys none = (refl, none)
nil_from_or_others (x ∷ xs) ys none = cc

-- a word picks none exactly where there is none
pub picked_is_none : {X : Type 0} (w : ℕ) (xs : List X) → w < 2 ^ 64 → IsNone (picked w xs) ↔ (xs ≡ [])
picked_is_none w [] word = ((λ none. refl), (λ same. search rules))
picked_is_none w (x ∷ xs) word =
    let (y, some) = picked_from_cons w x xs word in
    ((λ none. absurd (true≢false (rw some at none))), (λ same. cc))

-- a list is what stands at each of its places
items_at : {X : Type 0} (xs : List X) (d : X) → xs ≡ map (λ i. slice_index_or xs i d) (range_with_len 0 (length xs))
items_at xs d =
    let at = λ (i : ℕ). slice_index_or xs i d in
    ext_get_or d xs (map at (range_with_len 0 (length xs))) (sym (length-map-range_with_len at 0 (length xs))) (λ i inside.
    sym (get_or-map-range_with_len at 0 (length xs) i i d inside (omega arith)))

-- a pick from what passes of a list, by the places of those that pass
pub picked_at : {X : Type 0} (w : ℕ) (p : X → Bool) (xs : List X) (d : X)
    → picked w (filter p xs) ≡ option_map (λ i. slice_index_or xs i d) (picked w (numbers_that (λ i. p (slice_index_or xs i d)) (length xs)))
picked_at w p xs d = ap (λ ys. picked w (filter p ys)) (items_at xs d) ∙ picked_numbered w p (λ i. slice_index_or xs i d) (length xs)

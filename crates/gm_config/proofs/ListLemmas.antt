-- Lists whose elements are seen, kept or left out.
use Rattle.std.proofs.Common.{suc, ◌≡◌, ℕ, List, [], ◌∷◌, map, length, Bool, true, ◌&&◌, ◌||◌, Option, Some, None, is_some, refl, ap}
use Rattle.std.proofs.lemmas.List.Elements.{All-cons, All-nil}
use Rattle.std.specs.List.{list_all, list_any, filter_map, cons_option, All}

pub filter_map-map : {X Y Z : Type 0} (f : Y → Option Z) (g : X → Y) (xs : List X) → filter_map f (map g xs) ≡ filter_map (λ x. f (g x)) xs
filter_map-map f g [] = refl
filter_map-map f g (x ∷ xs) = ap (cons_option (f (g x))) (filter_map-map f g xs)

pub list_any-map : {X Y : Type 0} (p : Y → Bool) (g : X → Y) (xs : List X) → list_any p (map g xs) ≡ list_any (λ x. p (g x)) xs
list_any-map p g [] = refl
list_any-map p g (x ∷ xs) = ap (◌||◌ (p (g x))) (list_any-map p g xs)

length-cons_option : {A : Type 0} (o : Option A) (ns : List A) (others : Bool) (n : ℕ) → is_some o && others ≡ true → (others ≡ true → length ns ≡ n) → length (cons_option o ns) ≡ suc n
length-cons_option None ns others n found more = absurd (cc)
length-cons_option (Some _) ns others n found more = ap suc (more found)

-- where each element gives a number, there are as many numbers as elements
pub length-filter_map : {X A : Type 0} (f : X → Option A) (ds : List X) → list_all (λ d. is_some (f d)) ds ≡ true → length (filter_map f ds) ≡ length ds
length-filter_map f [] found = refl
length-filter_map f (d ∷ ds) found = length-cons_option (f d) _ _ _ found (length-filter_map f ds)

pub All-cons_option : {A : Type 0} (P : A → Type 0) (o : Option A) (ns : List A) → ((n : A) → o ≡ Some n → P n) → All P ns → All P (cons_option o ns)
All-cons_option P None ns here more = more
All-cons_option P (Some n) ns here more = All-cons P n ns (here n refl) more

pub All-filter_map : {X A : Type 0} (P : A → Type 0) (f : X → Option A) (ds : List X) → ((d : X) (n : A) → f d ≡ Some n → P n) → All P (filter_map f ds)
All-filter_map P f [] each = All-nil P
All-filter_map P f (d ∷ ds) each = All-cons_option P (f d) _ (each d) (All-filter_map P f ds each)

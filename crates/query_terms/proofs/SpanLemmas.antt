-- Parts of lists: what they are of a list that has more, and parts that stand one after the other.
use Rattle.std.proofs.Common.{◌≡◌, ℕ, zero, suc, ◌+◌, ◌-◌, ◌<◌, ◌≤◌, Bool, true, ◌&&◌, List, [], ◌∷◌, ◌++◌, length, map, take, drop, fold, refl, sym, ap, ◌∙◌, arith}
use Rattle.std.proofs.lemmas.Bool.{and_parts, leb-true, le-leb, eqb-true, eq-eqb}
use Rattle.std.proofs.lemmas.List.{drop-take, drop-drop, take-map, drop-map, take_more, map-append}
use Rattle.std.proofs.lemmas.List.Elements.{All-take, All-drop}
use Rattle.std.proofs.lemmas.List.Sums.{fold_push, AllPass-from_list_all, list_all-from_AllPass}
use Rattle.std.proofs.lemmas.List.Folds.{list_all-map}
use Rattle.std.proofs.Math.Seq.{take-add}
use Rattle.std.specs.List.{list_all, flat_map, slice_index_or}
use Rattle.gm_text.specs.declared.lists.Span.{Span}
use Rattle.query_terms.specs.Spans.{cut, lies, covers}

pub and_true : {a b : Bool} → a ≡ true → b ≡ true → (a && b) ≡ true
and_true p q = λ i. p i && q i

-- a test that holds where another does
pub list_all_more : {X : Type 0} (p q : X → Bool) (xs : List X) → ((x : X) → p x ≡ true → q x ≡ true) → list_all p xs ≡ true → list_all q xs ≡ true
list_all_more p q [] more h = refl
list_all_more p q (x ∷ xs) more h = and_true (more x (and_parts (p x) (list_all p xs) h).0) (list_all_more p q xs more (and_parts (p x) (list_all p xs) h).1)

-- two functions that agree on what passes a test
pub map_where : {X Y : Type 0} (f g : X → Y) (p : X → Bool) (xs : List X) → list_all p xs ≡ true → ((x : X) → p x ≡ true → f x ≡ g x) → map f xs ≡ map g xs
map_where f g p [] all same = refl
map_where f g p (x ∷ xs) all same =
    λ i. same x (and_parts (p x) (list_all p xs) all).0 i ∷ map_where f g p xs (and_parts (p x) (list_all p xs) all).1 same i

-- a fold over what a function makes of the first items, with one more
pub fold_map_more : {X Y Z : Type 0} (f : Z → Y → Z) (h : X → Y) (a : Z) (xs : List X) (i : ℕ) (d : X) → i < length xs
    → fold f a (map h (take (i + 1) xs)) ≡ f (fold f a (map h (take i xs))) (h (slice_index_or xs i d))
fold_map_more f h a xs i d lt =
    ap (λ ys. fold f a (map h ys)) (take_more xs i d lt)
    ∙ ap (fold f a) (map-append h (take i xs) (slice_index_or xs i d ∷ []))
    ∙ fold_push f a (map h (take i xs)) (h (slice_index_or xs i d))

-- an item of a list whose items all pass
passes_nth : {X : Type 0} (p : X → Bool) (xs : List X) (i : ℕ) (d : X) → list_all p xs ≡ true → i < length xs → p (slice_index_or xs i d) ≡ true
passes_nth p [] i d all lt = absurd (omega (arith, lt))
passes_nth p (x ∷ xs) zero d all lt = (and_parts (p x) (list_all p xs) all).0
passes_nth p (x ∷ xs) (suc i) d all lt = passes_nth p xs i d (and_parts (p x) (list_all p xs) all).1 (omega (arith, lt))

-- what passes each of what a function makes of a list
pub passes_mapped : {X Y : Type 0} (p : Y → Bool) (h : X → Y) (xs : List X) (i : ℕ) (d : X) → list_all p (map h xs) ≡ true → i < length xs → p (h (slice_index_or xs i d)) ≡ true
passes_mapped p h xs i d all lt = passes_nth (λ x. p (h x)) xs i d (sym (list_all-map p h xs) ∙ all) lt

-- the items of a part of it
pub passes_cut : {X : Type 0} (p : X → Bool) (xs : List X) (span : Span) → list_all p xs ≡ true → list_all p (cut xs span) ≡ true
passes_cut p xs span all =
    let P : _ → Type 0 = λ x. p x ≡ true in
    list_all-from_AllPass p (cut xs span) (All-take P span.count (drop span.first xs) (All-drop P span.first xs (AllPass-from_list_all p xs all)))

-- a part of what a function makes of a list
pub cut-map : {X Y : Type 0} (h : X → Y) (xs : List X) (span : Span) → cut (map h xs) span ≡ map h (cut xs span)
cut-map h xs span = ap (take span.count) (drop-map h span.first xs) ∙ take-map h span.count (drop span.first xs)

take_none : {X : Type 0} (c : ℕ) → take {A = X} c [] ≡ []
take_none zero = refl
take_none (suc c) = refl

take_less : {X : Type 0} (c m : ℕ) (ys : List X) → c ≤ m → take c (take m ys) ≡ take c ys
take_less zero m ys less = refl
take_less (suc c) m [] less = ap (take (suc c)) (take_none m)
take_less (suc c) zero (y ∷ ys) less = absurd (omega (arith, less))
take_less (suc c) (suc m) (y ∷ ys) less = ap (λ zs. y ∷ zs) (take_less c m ys (omega (arith, less)))

-- a part of a list is a part of its beginning
pub cut-take : {X : Type 0} (xs : List X) (n : ℕ) (s : Span) → lies n s ≡ true → cut (take n xs) s ≡ cut xs s
cut-take xs n s lie =
    let most : s.first + s.count ≤ n = leb-true _ n lie in
    let whole : n ≡ s.first + (n - s.first) = omega (arith, most) in
    ap (λ m. take s.count (drop s.first (take m xs))) whole
    ∙ ap (take s.count) (drop-take s.first (n - s.first) xs)
    ∙ take_less s.count (n - s.first) (drop s.first xs) (omega (arith, most))

-- lists that begin alike have the same parts there
pub cut_same : {X : Type 0} (xs ys : List X) (n : ℕ) (s : Span) → take n xs ≡ take n ys → lies n s ≡ true → cut xs s ≡ cut ys s
cut_same xs ys n s same lie = sym (cut-take xs n s lie) ∙ (ap (λ zs. cut zs s) same ∙ cut-take ys n s lie)

pub lies_more : (n m : ℕ) (s : Span) → n ≤ m → lies n s ≡ true → lies m s ≡ true
lies_more n m s more lie = le-leb _ m (omega (arith, more, leb-true _ n lie))

pub covers-most : (from : ℕ) (spans : List Span) (to : ℕ) → covers from spans to ≡ true → from ≤ to
covers-most from [] to h = omega (arith, eqb-true from to h)
covers-most from (s ∷ spans) to h =
    omega (arith, covers-most (from + s.count) spans to (and_parts _ _ h).1)

-- parts that stand one after the other lie before the end of the last
pub covers-lie : (from : ℕ) (spans : List Span) (to : ℕ) → covers from spans to ≡ true → list_all (lies to) spans ≡ true
covers-lie from [] to h = refl
covers-lie from (s ∷ spans) to h =
    let rest : covers (from + s.count) spans to ≡ true = (and_parts _ _ h).1 in
    let begins : s.first ≡ from = eqb-true s.first from (and_parts _ _ h).0 in
    let most : from + s.count ≤ to = covers-most (from + s.count) spans to rest in
    and_true (le-leb (s.first + s.count) to (omega (arith, begins, most))) (covers-lie (from + s.count) spans to rest)

-- one more, which begins where the last ends
pub covers-push : (from : ℕ) (spans : List Span) (to : ℕ) (s : Span) (end : ℕ) → covers from spans to ≡ true → s.first ≡ to → to + s.count ≡ end
    → covers from (spans ++ s ∷ []) end ≡ true
covers-push from [] to s end h begins ends =
    and_true (eq-eqb s.first from (omega (arith, begins, eqb-true from to h))) (eq-eqb (from + s.count) end (omega (arith, ends, eqb-true from to h)))
covers-push from (t ∷ spans) to s end h begins ends =
    and_true (and_parts _ _ h).0 (covers-push (from + t.count) spans to s end (and_parts _ _ h).1 begins ends)

-- the parts joined are the list between the ends
pub covers-join : {X : Type 0} (xs : List X) (from : ℕ) (spans : List Span) (to : ℕ) → covers from spans to ≡ true
    → flat_map (cut xs) spans ≡ take (to - from) (drop from xs)
covers-join xs from [] to h =
    let none : 0 ≡ to - from = omega (arith, eqb-true from to h) in
    ap (λ n. take n (drop from xs)) none
covers-join xs from (s ∷ spans) to h =
    let rest : covers (from + s.count) spans to ≡ true = (and_parts _ _ h).1 in
    let begins : s.first ≡ from = eqb-true s.first from (and_parts _ _ h).0 in
    let most : from + s.count ≤ to = covers-most (from + s.count) spans to rest in
    let whole : s.count + (to - (from + s.count)) ≡ to - from = omega (arith, most) in
    (λ i. take s.count (drop (begins i) xs) ++ covers-join xs (from + s.count) spans to rest i)
    ∙ (ap (λ ys. take s.count (drop from xs) ++ take (to - (from + s.count)) ys) (sym (drop-drop s.count from xs))
    ∙ (sym (take-add s.count (to - (from + s.count)) (drop from xs)) ∙ ap (λ n. take n (drop from xs)) whole))

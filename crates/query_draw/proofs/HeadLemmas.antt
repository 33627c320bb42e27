-- The heads of a rule: that they are as many as asked for, differ, and occur in its conjuncts.
use Rattle.std.proofs.Common.{◌≡◌, ℕ, zero, suc, ◌+◌, ◌-◌, ◌<◌, ◌≤◌, ◌==◌, nat_le, nat_lt, Bool, true, false, ◌&&◌, ◌||◌, if◌then◌else◌, List, [], ◌∷◌, length, map, take, drop, slice_index_or, refl, sym, ap, subst, ◌∙◌, arith, inl, inr}
use Rattle.std.specs.List.{range_with_len, list_all, list_any}
use Rattle.std.proofs.lemmas.Bool.{and_parts, cases_eq}
use Rattle.std.proofs.lemmas.Bool.Decides.{nat_tests}
use Rattle.gm_config.proofs.ListLemmas.{list_any-map}
use Rattle.sel_algebra.specs.declared.vocabulary.Shape.{Shape}
use Rattle.sel_algebra.specs.declared.vocabulary.Shape.TheVariants.{Chain, Star, Cycle, StarChain}
use Rattle.skeletons.specs.Skeleton.{HasSkeleton, spine_of, variables_of, ends_of}
use Rattle.query_terms.specs.Values.{ConjunctValue, differ, occurs}
use Rattle.query_draw.specs.Laws.{ends_in}
use Rattle.query_draw.specs.Query.{heads_of}

-- head i of n, after a spine of m conjuncts
abbrev pub head_number : ℕ → ℕ → ℕ → ℕ
head_number m n i = if nat_le n i then 0 else if i == 0 then 0 else if i == 1 then m else if nat_le i m then i - 1 else i

-- one of the first k conjuncts joins the variable
abbrev pub joins_variable : Shape → ℕ → ℕ → Bool
joins_variable shape k v = list_any (λ i. ((ends_of shape k i).0 == v) || ((ends_of shape k i).1 == v)) (range_with_len 0 k)

-- what is true of n heads
abbrev pub are_heads : Shape → ℕ → ℕ → Bool
are_heads shape k n =
    (length (heads_of shape k n) == n) && (differ (heads_of shape k n) && (list_all (joins_variable shape k) (heads_of shape k n)
    && list_all (λ i. slice_index_or (heads_of shape k n) i 0 == head_number (spine_of shape k) n i) (range_with_len 0 4)))

-- it is true where there are so many variables
abbrev pub heads_test : Shape → ℕ → ℕ → Bool
heads_test shape k n = nat_lt (variables_of shape k) n || are_heads shape k n

all_tested : (shape : Shape) → list_all (λ k. list_all (heads_test shape k) (range_with_len 0 5)) (range_with_len 1 8) ≡ true
all_tested Chain = refl
all_tested Star = refl
all_tested Cycle = refl
all_tested StarChain = refl

-- what passes on a range passes at each of its numbers
pub passes_at : (p : ℕ → Bool) (a n k : ℕ) → list_all p (range_with_len a n) ≡ true → a ≤ k → k < a + n → p k ≡ true
passes_at p a zero k all from to = absurd (omega (arith, from, to))
passes_at p a (suc n) k all from to = elim (cases_eq a k) [
  | inl same ↦ subst (λ x. p x ≡ true) same (and_parts (p a) (list_all p (range_with_len (a + 1) n)) all).0
  | inr other ↦ passes_at p (a + 1) n k (and_parts (p a) (list_all p (range_with_len (a + 1) n)) all).1 (omega (arith, from, other)) (omega (arith, to))
]

or_right : (a b : Bool) → (a || b) ≡ true → a ≡ false → b ≡ true
or_right a b some none = grind (arith)

not_lt : (a b : ℕ) → b ≤ a → nat_lt a b ≡ false
not_lt a b le = grind (arith, nat_tests)

tested : (shape : Shape) (k n : ℕ) → HasSkeleton shape k → n ≤ 4 → n ≤ variables_of shape k → are_heads shape k n ≡ true
tested shape k n is few within =
    let row = passes_at (λ k. list_all (heads_test shape k) (range_with_len 0 5)) 1 8 k (all_tested shape) is.some (omega (arith, is.few)) in
    or_right (nat_lt (variables_of shape k) n) (are_heads shape k n) (passes_at (heads_test shape k) 0 5 n row (omega arith) (omega (arith, few))) (not_lt (variables_of shape k) n within)

-- what is known of n heads
pub record AreHeads (shape : Shape) (k n : ℕ) : Type 0 where
  pub long : length (heads_of shape k n) ≡ n
  pub differ : differ (heads_of shape k n) ≡ true
  pub joined : list_all (joins_variable shape k) (heads_of shape k n) ≡ true
  pub each : (i : ℕ) → i < 4 → slice_index_or (heads_of shape k n) i 0 ≡ head_number (spine_of shape k) n i

same_number : (a b : ℕ) → (a == b) ≡ true → a ≡ b
same_number a b test = grind (arith, nat_tests)

pub heads_are : (shape : Shape) (k n : ℕ) → HasSkeleton shape k → n ≤ 4 → n ≤ variables_of shape k → AreHeads shape k n
heads_are shape k n is few within =
    let hs = heads_of shape k n in
    let number : ℕ → Bool = λ i. slice_index_or hs i 0 == head_number (spine_of shape k) n i in
    let (long, rest) = and_parts (length hs == n) (differ hs && (list_all (joins_variable shape k) hs && list_all number (range_with_len 0 4))) (tested shape k n is few within) in
    let (differs, more) = and_parts (differ hs) (list_all (joins_variable shape k) hs && list_all number (range_with_len 0 4)) rest in
    let (joined, each) = and_parts (list_all (joins_variable shape k) hs) (list_all number (range_with_len 0 4)) more in
    record {
      long = same_number (length hs) n long;
      differ = differs;
      joined = joined;
      each = λ i below. same_number (slice_index_or hs i 0) (head_number (spine_of shape k) n i) (passes_at number 0 4 i each (omega arith) (omega (arith, below)));
    }

-- the heads of a rule occur in its conjuncts
pub heads_occur : (shape : Shape) (k n : ℕ) (cs : List ConjunctValue) → AreHeads shape k n → ends_in cs ≡ map (ends_of shape k) (range_with_len 0 k) → list_all (occurs cs) (heads_of shape k n) ≡ true
heads_occur shape k n cs are ends = subst (λ p. list_all p (heads_of shape k n) ≡ true) (λ i v. same v i) are.joined
  where
    same : (v : ℕ) → joins_variable shape k v ≡ occurs cs v
    same v =
        sym (list_any-map (λ e. (e.0 == v) || (e.1 == v)) (ends_of shape k) (range_with_len 0 k))
        ∙ (ap (list_any (λ e. (e.0 == v) || (e.1 == v))) (sym ends) ∙ list_any-map (λ e. (e.0 == v) || (e.1 == v)) (λ c. (c.src, c.trg)) cs)

-- ---- the four places of heads

pub take_four : (n : ℕ) (hs : List ℕ) → length hs ≡ n → n ≤ 4 → take n (slice_index_or hs 0 0 ∷ slice_index_or hs 1 0 ∷ slice_index_or hs 2 0 ∷ slice_index_or hs 3 0 ∷ []) ≡ hs
take_four n [] long few = subst (λ m. take {A = ℕ} m (0 ∷ 0 ∷ 0 ∷ 0 ∷ []) ≡ []) long refl
take_four n (a ∷ []) long few = subst (λ m. take m (a ∷ 0 ∷ 0 ∷ 0 ∷ []) ≡ a ∷ []) long refl
take_four n (a ∷ b ∷ []) long few = subst (λ m. take m (a ∷ b ∷ 0 ∷ 0 ∷ []) ≡ a ∷ b ∷ []) long refl
take_four n (a ∷ b ∷ e ∷ []) long few = subst (λ m. take m (a ∷ b ∷ e ∷ 0 ∷ []) ≡ a ∷ b ∷ e ∷ []) long refl
take_four n (a ∷ b ∷ e ∷ f ∷ []) long few = subst (λ m. take m (a ∷ b ∷ e ∷ f ∷ []) ≡ a ∷ b ∷ e ∷ f ∷ []) long refl
take_four n (a ∷ b ∷ e ∷ f ∷ g ∷ hs) long few = absurd (omega (arith, long, few))

pub zeros_after : (n : ℕ) (hs : List ℕ) → length hs ≡ n → n ≤ 4
    → list_all (λ v. v == 0) (drop n (slice_index_or hs 0 0 ∷ slice_index_or hs 1 0 ∷ slice_index_or hs 2 0 ∷ slice_index_or hs 3 0 ∷ [])) ≡ true
zeros_after n [] long few = subst (λ m. list_all (λ v. v == 0) (drop {A = ℕ} m (0 ∷ 0 ∷ 0 ∷ 0 ∷ [])) ≡ true) long refl
zeros_after n (a ∷ []) long few = subst (λ m. list_all (λ v. v == 0) (drop m (a ∷ 0 ∷ 0 ∷ 0 ∷ [])) ≡ true) long refl
zeros_after n (a ∷ b ∷ []) long few = subst (λ m. list_all (λ v. v == 0) (drop m (a ∷ b ∷ 0 ∷ 0 ∷ [])) ≡ true) long refl
zeros_after n (a ∷ b ∷ e ∷ []) long few = subst (λ m. list_all (λ v. v == 0) (drop m (a ∷ b ∷ e ∷ 0 ∷ [])) ≡ true) long refl
zeros_after n (a ∷ b ∷ e ∷ f ∷ []) long few = subst (λ m. list_all (λ v. v == 0) (drop m (a ∷ b ∷ e ∷ f ∷ [])) ≡ true) long refl
zeros_after n (a ∷ b ∷ e ∷ f ∷ g ∷ hs) long few = absurd (omega (arith, long, few))

pub heads_in_are : (shape : Shape) (k n a b e f : ℕ) → HasSkeleton shape k → n ≤ 4 → n ≤ variables_of shape k → a ≡ slice_index_or (heads_of shape k n) 0 0 → b ≡ slice_index_or (heads_of shape k n) 1 0
    → e ≡ slice_index_or (heads_of shape k n) 2 0 → f ≡ slice_index_or (heads_of shape k n) 3 0 → take n (a ∷ b ∷ e ∷ f ∷ []) ≡ heads_of shape k n
heads_in_are shape k n a b e f is few within p q r s =
    (λ i. take n (p i ∷ q i ∷ r i ∷ s i ∷ [])) ∙ take_four n (heads_of shape k n) (heads_are shape k n is few within).long few

pub is_heads_are : (shape : Shape) (k n a b e f : ℕ) → HasSkeleton shape k → n ≤ 4 → n ≤ variables_of shape k → a ≡ slice_index_or (heads_of shape k n) 0 0 → b ≡ slice_index_or (heads_of shape k n) 1 0
    → e ≡ slice_index_or (heads_of shape k n) 2 0 → f ≡ slice_index_or (heads_of shape k n) 3 0 → list_all (λ v. v == 0) (drop n (a ∷ b ∷ e ∷ f ∷ [])) ≡ true
is_heads_are shape k n a b e f is few within p q r s =
    (λ i. list_all (λ v. v == 0) (drop n (p i ∷ q i ∷ r i ∷ s i ∷ []))) ∙ zeros_after n (heads_of shape k n) (heads_are shape k n is few within).long few

not_le : (a b : ℕ) → b < a → nat_le a b ≡ false
not_le a b lt = grind (arith, nat_tests)

not_same : (a b : ℕ) → b < a → (a == b) ≡ false
not_same a b lt = grind (arith, nat_tests)

-- the heads after the first two
pub head_after : (shape : Shape) (k n i : ℕ) → HasSkeleton shape k → n ≤ 4 → n ≤ variables_of shape k → i < 4 → i < n → 2 ≤ i
    → (if nat_le i (spine_of shape k) then i - 1 else i) ≡ slice_index_or (heads_of shape k n) i 0
head_after shape k n i is few within below inside later =
    let third : (if nat_le i (spine_of shape k) then i - 1 else i) ≡ head_number (spine_of shape k) n i =
    λ j. if sym (not_le n i inside) j then 0 else if sym (not_same i 0 (omega (arith, later))) j then 0 else if sym (not_same i 1 (omega (arith, later))) j then spine_of shape k else if nat_le i (spine_of shape k) then i - 1 else i in
    third ∙ sym ((heads_are shape k n is few within).each i below)

-- The number of heads of a drawn query, and its parts put together.
use Rattle.std.proofs.Common.{◌≡◌, ℕ, zero, suc, ◌+◌, ◌-◌, ◌^◌, ◌<◌, ◌≤◌, ◌==◌, Bool, true, false, if◌then◌else◌, Option, Some, None, List, [], ◌∷◌, ◌++◌, length, map, min, take, slice_index_or, refl, sym, ap, subst, ◌∙◌, arith}
use Rattle.std.specs.List.{range_with_len, list_any, fold}
use Rattle.std.specs.Option.{is_some}
use Rattle.std.proofs.lemmas.Bool.{and_parts}
use Rattle.std.proofs.lemmas.List.FromFn.{length-range_with_len, get_or-range_with_len, length-map-range_with_len, get_or-map-range_with_len}
use Rattle.std.proofs.lemmas.List.Sums.{fold_more}
use Rattle.candidates.specs.Picked.{picked}
use Rattle.sel_algebra.specs.declared.vocabulary.Class.{Class}
use Rattle.sel_algebra.specs.declared.vocabulary.Shape.{Shape}
use Rattle.gm_config.specs.declared.workload_rules.Range.{Range}
use Rattle.gm_config.specs.Config.{ConfigValue, IsConfig}
use Rattle.schema_graph.specs.Configured.{schema_of}
use Rattle.skeletons.specs.Skeleton.{HasSkeleton, spine_of, variables_of}
use Rattle.candidates.proofs.PickLemmas.{pick_of-below}
use Rattle.gm_config.specs.declared.workload_rules.Workload.{Workload}
use Rattle.walk_pick.specs.Candidates.{is_live_start, types_of, goal_of, permits, count_candidates}
use Rattle.walk_pick.proofs.LawLemmas.{picked_counts_are_live}
use Rattle.query_terms.specs.Building.{Building}
use Rattle.query_terms.specs.Values.{RuleValue, QueryValue, arity_of, has_class}
use Rattle.sel_graph.specs.Moves.{ReachValue}
use Rattle.query_draw.specs.Drawn.{Words, words_for, drawn_from, rule_conjuncts}
use Rattle.query_draw.proofs.LegLemmas.{words_for-words}
use Rattle.query_draw.specs.Query.{reach_of, drawn_shape, drawn_class, rule_count, wanted_arity, rule_size, at_most_variables, drawn_arity, heads_of, drawn_rule, drawn_rules, has_query, query_of}
use Rattle.query_draw.specs.Wide.{query_wide}
use Rattle.query_draw.proofs.RuleLemmas.{rule_is_begun, wide_is_there}
use Rattle.query_draw.proofs.HeadLemmas.{AreHeads, heads_are}

zero_more : (n : ℕ) → 0 + n ≡ n
zero_more n = omega arith

-- ---- the number of heads

lower_fold : (f : ℕ → ℕ) (a : ℕ) (xs : List ℕ) → fold (λ n x. min n (f x)) a xs ≤ a
lower_fold f a [] = omega arith
lower_fold f a (x ∷ xs) = let rest = lower_fold f (min a (f x)) xs in omega (arith, rest)

fold_below : (f : ℕ → ℕ) (a : ℕ) (xs : List ℕ) (i : ℕ) → i < length xs → fold (λ n x. min n (f x)) a xs ≤ f (slice_index_or xs i 0)
fold_below f a [] i below = absurd (omega (arith, below))
fold_below f a (x ∷ xs) zero below = let rest = lower_fold f (min a (f x)) xs in omega (arith, rest)
fold_below f a (x ∷ xs) (suc i) below = fold_below f (min a (f x)) xs i (omega (arith, below))

pub arity_wanted : (c : ConfigValue) (seed number : ℕ) → drawn_arity c seed number ≤ wanted_arity c seed number
arity_wanted c seed number =
    lower_fold (λ rule. variables_of (drawn_shape c seed number) (rule_size c seed number rule)) (wanted_arity c seed number) (range_with_len 0 (rule_count c seed number))

-- no rule has fewer variables than heads
pub arity_variables : (c : ConfigValue) (seed number rule : ℕ) → rule < rule_count c seed number → drawn_arity c seed number ≤ variables_of (drawn_shape c seed number) (rule_size c seed number rule)
arity_variables c seed number rule within =
    let rules = range_with_len 0 (rule_count c seed number) in
    let variables : ℕ → ℕ = λ rule. variables_of (drawn_shape c seed number) (rule_size c seed number rule) in
    subst (λ x. drawn_arity c seed number ≤ variables x) (get_or-range_with_len 0 (rule_count c seed number) rule 0 within ∙ zero_more rule)
    (fold_below variables (wanted_arity c seed number) rules rule (omega (arith, within, length-range_with_len 0 (rule_count c seed number))))

-- the number of heads after the first rules
abbrev pub arity_after : ConfigValue → ℕ → ℕ → ℕ → ℕ
arity_after c seed number n = fold (at_most_variables c seed number) (wanted_arity c seed number) (take n (range_with_len 0 (rule_count c seed number)))

pub arity_after-more : (c : ConfigValue) (seed number n : ℕ) → n < rule_count c seed number
    → arity_after c seed number (n + 1) ≡ min (arity_after c seed number n) (variables_of (drawn_shape c seed number) (rule_size c seed number n))
arity_after-more c seed number n within =
    let rules = range_with_len 0 (rule_count c seed number) in
    fold_more (at_most_variables c seed number) (wanted_arity c seed number) rules n 0 (omega (arith, within, length-range_with_len 0 (rule_count c seed number)))
    ∙ ap (at_most_variables c seed number (arity_after c seed number n)) (get_or-range_with_len 0 (rule_count c seed number) n 0 within ∙ zero_more n)

-- ---- rules

-- a rule of a drawn query has a skeleton, and some start can meet its goal
pub record IsSized (c : ConfigValue) (seed number rule : ℕ) : Type 0 where
  pub skeleton : HasSkeleton (drawn_shape c seed number) (rule_size c seed number rule)
  pub heads : rule < rule_count c seed number → AreHeads (drawn_shape c seed number) (rule_size c seed number rule) (drawn_arity c seed number)

pub rule_is_sized : (c : ConfigValue) → IsConfig c → (seed number rule : ℕ) → has_query c seed number ≡ true → drawn_arity c seed number ≤ 4 → IsSized c seed number rule
rule_is_sized c is seed number rule any few =
    let begins = rule_is_begun c is seed number rule any in
    record {
      skeleton = begins.skeleton;
      heads = λ within. heads_are (drawn_shape c seed number) (rule_size c seed number rule) (drawn_arity c seed number) begins.skeleton few (arity_variables c seed number rule within);
    }

first_arity : (f : ℕ → RuleValue) (n : ℕ) → 0 < n → arity_of (map f (range_with_len 0 n)) ≡ length (f 0).heads
first_arity f zero some = absurd (omega (arith, some))
first_arity f (suc n) some = refl

-- a drawn query has a class just where it has two heads
pub has_class_is : (c : ConfigValue) → IsConfig c → (seed number : ℕ) → has_query c seed number ≡ true → drawn_arity c seed number ≤ 4 → 0 < rule_count c seed number
    → has_class (drawn_rules c seed number) ≡ (drawn_arity c seed number == 2)
has_class_is c is seed number any few some =
    ap (λ n. n == 2) (first_arity (drawn_rule c seed number) (rule_count c seed number) some ∙ ((rule_is_sized c is seed number 0 any few).heads some).long)

-- ---- sizes

-- the sizes of the rules
abbrev pub all_sizes : ConfigValue → ℕ → ℕ → List ℕ
all_sizes c seed number = map (rule_size c seed number) (range_with_len 0 (rule_count c seed number))

pub size_within : (c : ConfigValue) (seed number i : ℕ) (sizes : List ℕ) → sizes ≡ all_sizes c seed number → i < length sizes → i < rule_count c seed number
size_within c seed number i sizes are within =
    subst (λ n. i < n) (ap length are ∙ length-map-range_with_len (rule_size c seed number) 0 (rule_count c seed number)) within

pub size_at : (c : ConfigValue) (seed number i d : ℕ) (sizes : List ℕ) → sizes ≡ all_sizes c seed number → i < length sizes → slice_index_or sizes i d ≡ rule_size c seed number i
size_at c seed number i d sizes are within =
    ap (λ xs. slice_index_or xs i d) are ∙ get_or-map-range_with_len (rule_size c seed number) 0 (rule_count c seed number) i i d (size_within c seed number i sizes are within) (zero_more i)

pub size_skeleton : (c : ConfigValue) → IsConfig c → (seed number i d : ℕ) (shape : Shape) (sizes : List ℕ) → has_query c seed number ≡ true → shape ≡ drawn_shape c seed number → sizes ≡ all_sizes c seed number
    → i < length sizes → HasSkeleton shape (slice_index_or sizes i d)
size_skeleton c is seed number i d shape sizes any same are within =
    subst (λ s. HasSkeleton s (slice_index_or sizes i d)) (sym same)
    (subst (HasSkeleton (drawn_shape c seed number)) (sym (size_at c seed number i d sizes are within)) (rule_is_begun c is seed number i any).skeleton)

-- the number of conjuncts that is found is the one that is drawn
pub size_found : (c : ConfigValue) → IsConfig c → (seed number rule w : ℕ) (r : ReachValue) (shape : Shape) (class : Class) (range : Range) (found : Option ℕ) → has_query c seed number ≡ true → r ≡ reach_of c
    → shape ≡ drawn_shape c seed number → class ≡ drawn_class c seed number → range ≡ c.workload.conjuncts → w ≡ words_for seed number rule 3 → found ≡ picked w (count_candidates r shape class range)
    → found ≡ Some (rule_size c seed number rule)
size_found c is seed number rule w r shape class range found any reach shapes classes ranges same value =
    value ∙ ((λ k. picked (same k) (count_candidates (reach k) (shapes k) (classes k) (ranges k))) ∙ (rule_is_begun c is seed number rule any).count)

-- ---- bounds, and live starts

pub drawn_most : (range : Range) (w : ℕ) → w < 2 ^ 64 → range.least ≤ range.most → drawn_from range w ≤ range.most
drawn_most range w below ordered =
    let pick = pick_of-below w (range.most - range.least + 1) below (omega arith) in
    omega (arith, pick, ordered)

pub few_rules : (c : ConfigValue) → IsConfig c → (seed number : ℕ) → rule_count c seed number ≤ 4
few_rules c is seed number =
    let most = drawn_most c.workload.rules (words_for seed number 0 2) (words_for-words seed number 0 2) is.workload.rules.ordered in
    omega (arith, most, is.workload.rules.small)

pub arity_few : (c : ConfigValue) → IsConfig c → (seed number : ℕ) → drawn_arity c seed number ≤ 4
arity_few c is seed number =
    let most = drawn_most c.workload.arity (words_for seed number 0 5) (words_for-words seed number 0 5) is.workload.arity.ordered in
    omega (arith, most, is.workload.arity.small, arity_wanted c seed number)

-- some start can meet the goal of a drawn rule
pub live_start : (c : ConfigValue) → IsConfig c → (seed number rule : ℕ) (r : ReachValue) (shape : Shape) (class : Class) (k : ℕ) → has_query c seed number ≡ true → r ≡ reach_of c → shape ≡ drawn_shape c seed number
    → class ≡ drawn_class c seed number → k ≡ rule_size c seed number rule → list_any (is_live_start r (goal_of shape class k) (spine_of shape k)) (types_of r) ≡ true
live_start c is seed number rule r shape class k any reach shapes classes sizes =
    let begins = rule_is_begun c is seed number rule any in
    let size = rule_size c seed number rule in
    let there = drawn_shape c seed number in
    let wanted = drawn_class c seed number in
    let (least, most, live) = picked_counts_are_live (reach_of c) there wanted c.workload.conjuncts (words_for seed number rule 3) size begins.count in
    (λ j. list_any (is_live_start (reach j) (goal_of (shapes j) (classes j) (sizes j)) (spine_of (shapes j) (sizes j))) (types_of (reach j)))
    ∙ (and_parts (permits there size) (list_any (is_live_start (reach_of c) (goal_of there wanted size) (spine_of there size)) (types_of (reach_of c))) live).1

-- a rule that is drawn from these parts is the drawn one
pub rule_drawn : (c : ConfigValue) (seed number rule : ℕ) (r : ReachValue) (w : Workload) (d : Words) (shape : Shape) (class : Class) (k n : ℕ) → r ≡ reach_of c → w ≡ c.workload → d ≡ words_for seed number rule
    → shape ≡ drawn_shape c seed number → class ≡ drawn_class c seed number → k ≡ rule_size c seed number rule → n ≡ drawn_arity c seed number
    → ◌≡◌ {A = RuleValue} (record { heads = heads_of shape k n; conjuncts = rule_conjuncts r w shape class d k }) (drawn_rule c seed number rule)
rule_drawn c seed number rule r w d shape class k n reach works words shapes classes sizes heads =
    λ j. record { heads = heads_of (shapes j) (sizes j) (heads j); conjuncts = rule_conjuncts (reach j) (works j) (shapes j) (classes j) (words j) (sizes j) }

-- one more of rules that are put in
pub rules_put-more : (b now new : Building) (xs ys : List RuleValue) (x y : RuleValue) → now ≡ record b { rules = xs; taken = now.taken }
    → new ≡ record now { rules = now.rules ++ x ∷ []; taken = new.taken } → x ≡ y → ys ≡ xs ++ y ∷ [] → new ≡ record b { rules = ys; taken = new.taken }
rules_put-more b now new xs ys x y first rest same all =
    rest ∙ ((λ i. record (first i) { rules = (first i).rules ++ same i ∷ []; taken = new.taken }) ∙ (λ i. record b { rules = sym all i; taken = new.taken }))

-- ---- classes

pub rules_some : (c : ConfigValue) → IsConfig c → (seed number : ℕ) → 0 < length (drawn_rules c seed number)
rules_some c is seed number =
    let long = length-map-range_with_len (drawn_rule c seed number) 0 (rule_count c seed number) in
    omega (arith, long, is.workload.rules.above)

is_there : (b : Bool) (class : Class) → is_some (if b then Some class else None) ≡ b
is_there true class = refl
is_there false class = refl

-- a query has a class just where it has two heads
pub class_there : (c : ConfigValue) → IsConfig c → (seed number arity : ℕ) (class : Class) (found : Option Class) (rules : List RuleValue) → has_query c seed number ≡ true → arity ≡ drawn_arity c seed number
    → found ≡ (if arity == 2 then Some class else None) → rules ≡ drawn_rules c seed number → is_some found ≡ has_class rules
class_there c is seed number arity class found rules any same are rules_are =
    let some : 0 < rule_count c seed number = omega (arith, is.workload.rules.above) in
    ap is_some are ∙ (is_there (arity == 2) class ∙ (ap (λ n. n == 2) same ∙ (sym (has_class_is c is seed number any (arity_few c is seed number) some) ∙ ap has_class (sym rules_are))))

-- the query of these parts is the drawn one
pub planned_is : (c : ConfigValue) → IsConfig c → (seed number arity : ℕ) (class : Class) (found wide : Option Class) (labels : List ℕ) (shape : Shape) (rules : List RuleValue)
    → has_query c seed number ≡ true → arity ≡ drawn_arity c seed number → class ≡ drawn_class c seed number → found ≡ (if arity == 2 then Some class else None)
    → labels ≡ map (λ e. e.label) (schema_of c).edges → shape ≡ drawn_shape c seed number → rules ≡ drawn_rules c seed number → wide ≡ query_wide (schema_of c) shape rules
    → ◌≡◌ {A = QueryValue} (record { labels = labels; shape = shape; class = found; wide = wide; rules = rules }) (query_of c seed number)
planned_is c is seed number arity class found wide labels shape rules any same classes are named shapes made wide_is =
    let some : 0 < rule_count c seed number = omega (arith, is.workload.rules.above) in
    let two : (arity == 2) ≡ has_class (drawn_rules c seed number) =
    ap (λ n. n == 2) same ∙ sym (has_class_is c is seed number any (arity_few c is seed number) some) in
    let found_is : found ≡ (query_of c seed number).class = are ∙ (λ k. if two k then Some (classes k) else None) in
    let there : wide ≡ (query_of c seed number).wide = wide_is ∙ (λ k. query_wide (schema_of c) (shapes k) (made k)) in
    λ k. record { labels = named k; shape = shapes k; class = found_is k; wide = there k; rules = made k }

-- it has a wide class just where it has two heads
pub wide_there : (c : ConfigValue) → IsConfig c → (seed number : ℕ) (wide : Option Class) (shape : Shape) (rules : List RuleValue) → has_query c seed number ≡ true
    → shape ≡ drawn_shape c seed number → rules ≡ drawn_rules c seed number → wide ≡ query_wide (schema_of c) shape rules → is_some wide ≡ has_class rules
wide_there c is seed number wide shape rules any shapes made wide_is =
    ap is_some (wide_is ∙ (λ k. query_wide (schema_of c) (shapes k) (made k))) ∙ (wide_is_there c is seed number any ∙ ap has_class (sym made))

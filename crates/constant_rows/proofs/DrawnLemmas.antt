-- The rules of a drawn query with two heads, and what its wide class says of each.
use Rattle.std.proofs.Common.{◌≡◌, ◌≢◌, inl, inr, ℕ, zero, suc, ◌+◌, ◌<◌, ◌≤◌, nat_lt, Bool, true, false, if◌then◌else◌, Option, Some, None, List, [], ◌∷◌, length, map, take, drop, slice_index_or, refl, sym, ap, subst, ◌∙◌, arith}
use Rattle.std.specs.List.{All, AllByRecursion, Contains, range_with_len}
use Rattle.std.proofs.lemmas.Bool.{eqb-true}
use Rattle.std.proofs.lemmas.Bool.Decides.{nat_tests}
use Rattle.std.proofs.lemmas.List.{length-map, length-take-le}
use Rattle.std.proofs.lemmas.List.Elements.{All-map, All-weaker, All-from_get_or}
use Rattle.std.proofs.lemmas.List.FromFn.{length-map-range_with_len}
use Rattle.sel_algebra.specs.declared.vocabulary.Class.{Class}
use Rattle.sel_algebra.specs.declared.vocabulary.Class.TheVariants.{Constant}
use Rattle.sel_algebra.specs.declared.vocabulary.Shape.{Shape}
use Rattle.sel_algebra.specs.declared.vocabulary.Shape.TheVariants.{Chain, Star, Cycle, StarChain}
use Rattle.sel_algebra.specs.Entries.{ClassEntryAtMost, greater_class}
use Rattle.sel_algebra.proofs.GreatestLemmas.{ClassEntryAtMost-trans}
use Rattle.graph_text.proofs.MemberLemmas.{Contains-cases, Contains-none}
use Rattle.gm_config.specs.Config.{ConfigValue, IsConfig}
use Rattle.schema_graph.specs.Configured.{schema_of}
use Rattle.schema_graph.specs.Schema.{SchemaValue}
use Rattle.skeletons.specs.Skeleton.{HasSkeleton, spine_of, ends_of}
use Rattle.query_terms.specs.Values.{ConjunctValue, RuleValue, has_class}
use Rattle.query_draw.specs.Values.{LeadsWord, LeadsConjunct, LeadsSpine, spine, greatest_of}
use Rattle.query_draw.specs.Laws.{ends_in}
use Rattle.query_draw.specs.Query.{drawn_shape, rule_count, rule_size, drawn_arity, heads_of, drawn_rule, drawn_rules, has_query}
use Rattle.query_draw.proofs.RuleLemmas.{drawn_rule_has_spine, drawn_rules_have_skeletons}
use Rattle.query_draw.proofs.QueryLemmas.{has_class_is, arity_few}
use Rattle.constant_rows.proofs.PathLemmas.{HasWords}
use Rattle.constant_rows.proofs.SpineLemmas.{Follows, IsSpined}

-- ---- conjuncts that lead along

words-some : (g : SchemaValue) (t u : ℕ) (c : ConjunctValue) → LeadsConjunct g t c u → HasWords c
words-some g t u c leads = record {
  some = leads.some;
  each = All-weaker (λ word. LeadsWord g t word u) (λ word. word ≢ []) (λ word is. is.some) c.words leads.each;
}

spine-words : (g : SchemaValue) (t u : ℕ) (cs : List ConjunctValue) → LeadsSpine g t cs u → AllByRecursion HasWords cs
spine-words g t u [] leads = tt
spine-words g t u (c ∷ cs) (n, here, leads) = (words-some g t n c here, spine-words g n u cs leads)

-- ---- the skeleton

below : (a b : ℕ) → a < b → nat_lt a b ≡ true
below a b less = grind (arith, nat_tests)

spine-ends : (shape : Shape) (k i : ℕ) → i < spine_of shape k → ends_of shape k i ≡ (i, suc i)
spine-ends shape k i within = rw (below i (spine_of shape k) within) (λ j. (i, next j))
  where
    next : i + 1 ≡ suc i
    next = omega arith

cons-parts : {X : Type 0} (x y : X) (xs ys : List X) → x ∷ xs ≡ y ∷ ys → (x ≡ y) × (xs ≡ ys)
cons-parts x y xs ys same = (ap (λ zs. slice_index_or zs 0 x) same, ap (drop 1) same)

spine-follows : (shape : Shape) (k : ℕ) (cs : List ConjunctValue) (n i : ℕ) → ends_in cs ≡ map (ends_of shape k) (range_with_len i (length cs))
    → i + n ≤ spine_of shape k → Follows i (take n cs)
spine-follows shape k cs zero i ends within = tt
spine-follows shape k [] (suc n) i ends within = tt
spine-follows shape k (c ∷ cs) (suc n) i ends within =
    let (here, rest) = cons-parts (c.src, c.trg) (ends_of shape k i) (ends_in cs) (map (ends_of shape k) (range_with_len (i + 1) (length cs))) ends in
    let both = here ∙ spine-ends shape k i (omega (arith, within)) in
    let next : i + 1 ≡ suc i = omega arith in
    (ap (λ p. p.0) both, ap (λ p. p.1) both, spine-follows shape k cs n (suc i) (rest ∙ ap (λ j. map (ends_of shape k) (range_with_len j (length cs))) next) (omega (arith, within)))

spine-most : (shape : Shape) (k : ℕ) → HasSkeleton shape k → spine_of shape k ≤ k
spine-most Chain k is = omega arith
spine-most Star k is = is.some
spine-most Cycle k is = omega (arith, is.some)
spine-most StarChain k is = omega (arith, is.some)

-- a rule with two heads of a skeleton
spined : (g : SchemaValue) (shape : Shape) (k t u : ℕ) (rule : RuleValue) → HasSkeleton shape k → spine shape rule ≢ [] → LeadsSpine g t (spine shape rule) u
    → ends_in rule.conjuncts ≡ map (ends_of shape k) (range_with_len 0 k) → rule.heads ≡ heads_of shape k 2 → IsSpined shape rule
spined g shape k t u rule skeleton some leads ends heads =
    let long : length rule.conjuncts ≡ k = sym (length-map rule.conjuncts (λ c. (c.src, c.trg))) ∙ (ap length ends ∙ length-map-range_with_len (ends_of shape k) 0 k) in
    let m : spine_of shape (length rule.conjuncts) ≡ spine_of shape k = ap (spine_of shape) long in
    let short : length (spine shape rule) ≡ spine_of shape k = length-take-le (spine_of shape (length rule.conjuncts)) rule.conjuncts (omega (arith, m, long, spine-most shape k skeleton)) ∙ m in
    record {
      some = some;
      words = spine-words g t u (spine shape rule) leads;
      follows = spine-follows shape k rule.conjuncts (spine_of shape (length rule.conjuncts)) 0 (ends ∙ ap (λ n. map (ends_of shape k) (range_with_len 0 n)) (sym long)) (omega (arith, m));
      heads = heads ∙ ap (λ n. 0 ∷ n ∷ []) (sym short);
    }

-- ---- drawn rules

drawn-spined : (c : ConfigValue) → IsConfig c → (seed number rule : ℕ) → has_query c seed number ≡ true → drawn_arity c seed number ≡ 2
    → IsSpined (drawn_shape c seed number) (drawn_rule c seed number rule)
drawn-spined c is seed number rule any two =
    let shape = drawn_shape c seed number in
    let k = rule_size c seed number rule in
    let has = drawn_rule_has_spine c is seed number rule any in
    let (skeleton, ends) = drawn_rules_have_skeletons c is seed number rule any in
    spined (schema_of c) shape k has.start has.end (drawn_rule c seed number rule) skeleton has.some has.leads ends (ap (heads_of shape k) two)

pub drawn_rules-spined : (c : ConfigValue) → IsConfig c → (seed number : ℕ) → has_query c seed number ≡ true → has_class (drawn_rules c seed number) ≡ true
    → All (IsSpined (drawn_shape c seed number)) (drawn_rules c seed number)
drawn_rules-spined c is seed number any class =
    let count = rule_count c seed number in
    let some : 0 < count = omega (arith, is.workload.rules.above) in
    let two : drawn_arity c seed number ≡ 2 = eqb-true (drawn_arity c seed number) 2 (sym (has_class_is c is seed number any (arity_few c is seed number) some) ∙ class) in
    let P = IsSpined (drawn_shape c seed number) in
    All-map P (drawn_rule c seed number) (range_with_len 0 count)
    (All-from_get_or (λ rule. P (drawn_rule c seed number rule)) (range_with_len 0 count) 0 (λ i within. drawn-spined c is seed number (slice_index_or (range_with_len 0 count) i 0) any two))

-- ---- the greatest class

greater-left : (c d : Option Class) → ClassEntryAtMost c (greater_class c d)
greater-left None d = tt
greater-left (Some c) None = same c
  where
    same : (c : Class) → ClassEntryAtMost (Some c) (Some c)
    same c = grind (arith)
greater-left (Some c) (Some d) = left c d
  where
    left : (c d : Class) → ClassEntryAtMost (Some c) (greater_class (Some c) (Some d))
    left c d = grind (arith)

greater-right : (c d : Option Class) → ClassEntryAtMost d (greater_class c d)
greater-right c None = tt
greater-right None (Some d) = same d
  where
    same : (d : Class) → ClassEntryAtMost (Some d) (Some d)
    same d = grind (arith)
greater-right (Some c) (Some d) = right c d
  where
    right : (c d : Class) → ClassEntryAtMost (Some d) (greater_class (Some c) (Some d))
    right c d = grind (arith)

-- the class of each rule is at most the greatest
pub rule-at_most : (class : RuleValue → Option Class) (rules : List RuleValue) (rule : RuleValue) → Contains rules rule → ClassEntryAtMost (class rule) (greatest_of (map class rules))
rule-at_most class [] rule inside = absurd (Contains-none rule inside)
rule-at_most class (first ∷ rules) rule inside =
    let rest = greatest_of (map class rules) in
    elim (Contains-cases first rule rules inside) [
      | inl same ↦ subst (λ r. ClassEntryAtMost (class r) (greater_class (class first) rest)) same (greater-left (class first) rest)
      | inr later ↦ ClassEntryAtMost-trans (class rule) rest (greater_class (class first) rest) (rule-at_most class rules rule later) (greater-right (class first) rest)
    ]

-- where a query has a wide class, it has two heads
pub two_heads : (two : Bool) (class : Option Class) → (if two then class else None) ≡ Some Constant → (two ≡ true) × (class ≡ Some Constant)
two_heads false class wide = absurd (cc)
two_heads true class wide = (refl, wide)

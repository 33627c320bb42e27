-- What is drawn keeps the rules of workload texts.
use Rattle.std.proofs.Common.{◌≡◌, ◌≢◌, ◌∙◌, ℕ, zero, suc, ◌+◌, ◌<◌, ◌≤◌, min, List, [], ◌∷◌, length, map, get_or, refl, ap, sym, subst}
use Rattle.std.proofs.Common.{Bool, true, false, ◌==◌, ◌&&◌, nat_lt, nat_le, if◌then◌else◌, Some, None, is_some, All, fold, arith}
use Rattle.std.specs.List.{list_all, range_with_len}
use Rattle.std.proofs.lemmas.Bool.Decides.{nat_tests}
use Rattle.std.proofs.lemmas.List.{length-map}
use Rattle.std.proofs.lemmas.List.Folds.{list_all-map}
use Rattle.std.proofs.lemmas.List.Elements.{All-head, All-tail, All-nil, All-cons, All-map, All-from_get_or}
use Rattle.std.proofs.lemmas.List.FromFn.{length-map-range_with_len, get_or-range_with_len, length-range_with_len}
use Rattle.sel_algebra.specs.declared.vocabulary.Symbol.{Symbol}
use Rattle.sel_algebra.specs.declared.vocabulary.Class.{Class}
use Rattle.sel_algebra.specs.declared.vocabulary.Shape.{Shape}
use Rattle.sel_algebra.specs.declared.vocabulary.Shape.TheVariants.{Chain, Star, Cycle, StarChain}
use Rattle.skeletons.specs.Skeleton.{HasSkeleton, ends_of, variables_of}
use Rattle.gm_config.specs.Config.{ConfigValue, IsConfig}
use Rattle.gm_config.specs.declared.workload_rules.Range.{Range}
use Rattle.schema_graph.specs.declared.edge.SchemaEdge.{SchemaEdge}
use Rattle.schema_graph.specs.Edge.{end_of}
use Rattle.schema_graph.specs.Schema.{SchemaValue}
use Rattle.schema_graph.specs.Configured.{schema_of}
use Rattle.candidates.proofs.PickLemmas.{pick_of-below}
use Rattle.seeded_draw.specs.Draw.{pick_of}
use Rattle.query_terms.specs.Values.{ConjunctValue, RuleValue, has_edge, is_word, is_conjunct, have_heads, arity_of, has_class}
use Rattle.query_draw.specs.Values.{Leads, LeadsWord}
use Rattle.query_draw.specs.Laws.{ends_in}
use Rattle.query_draw.specs.Drawn.{words_for, drawn_from}
use Rattle.query_draw.specs.Query.{reach_of, drawn_shape, drawn_class, rule_count, rule_size, wanted_arity, drawn_arity, heads_of, drawn_rule, drawn_rules, has_query, query_of}
use Rattle.query_draw.proofs.LegLemmas.{words_for-words}
use Rattle.query_draw.proofs.LedLemmas.{IsLed, drawn_rule_led}
use Rattle.query_draw.proofs.HeadLemmas.{passes_at, heads_occur}
use Rattle.query_draw.proofs.QueryLemmas.{arity_wanted, rule_is_sized, has_class_is, few_rules, arity_few, rules_some}
use Rattle.query_draw.proofs.RuleLemmas.{rule_is_begun, drawn_rules_have_skeletons, wide_is_there}
use Rattle.workload_text.specs.Values.{word_start, word_end, end_from, is_chain_from, is_chain, has_ends, have_same_ends, comes_back, may_be_starred, is_short_word}
use Rattle.workload_text.specs.Values.{IsConjunct, IsRule, IsQuery, IsWork}
use Rattle.workload_text.specs.Head.{head_of}
use Rattle.workload_text.proofs.HeadLemmas.{IsHead-head_of}
use Rattle.gm_top.specs.Generation.{CanDraw}
use Rattle.gm_top.specs.Workload.{workload_of}

both : (a b : Bool) → a ≡ true → b ≡ true → (a && b) ≡ true
both a b p q = cc

equal : (a b : ℕ) → a ≡ b → (a == b) ≡ true
equal a b same = grind (arith, nat_tests)

below : (a b : ℕ) → a < b → nat_lt a b ≡ true
below a b less = grind (arith, nat_tests)

at_most : (a b : ℕ) → a ≤ b → nat_le a b ≡ true
at_most a b le = grind (arith, nat_tests)

-- a test that holds of what has a property
list_all-from_All : {X : Type 0} (p : X → Bool) (P : X → Type 0) (xs : List X) → ((x : X) → P x → p x ≡ true) → All P xs → list_all p xs ≡ true
list_all-from_All p P [] each all = refl
list_all-from_All p P (x ∷ xs) each all = both (p x) (list_all p xs) (each x (All-head P x xs all)) (list_all-from_All p P xs each (All-tail P x xs all))

All-from_All : {X : Type 0} (P Q : X → Type 0) (xs : List X) → ((x : X) → P x → Q x) → All P xs → All Q xs
All-from_All P Q [] each all = All-nil Q
All-from_All P Q (x ∷ xs) each all = All-cons Q x xs (each x (All-head P x xs all)) (All-from_All P Q xs each (All-tail P x xs all))

-- what is true of each number below n is true of the mapped range
mapped : {X : Type 0} (P : X → Type 0) (f : ℕ → X) (n : ℕ) → ((j : ℕ) → j < n → P (f j)) → All P (map f (range_with_len 0 n))
mapped P f n each =
    All-map P f (range_with_len 0 n) (All-from_get_or (λ j. P (f j)) (range_with_len 0 n) 0 (λ i inside.
    let within : i < n = omega (arith, inside, length-range_with_len 0 n) in
    let zero_more : i ≡ 0 + i = omega arith in
    let at : i ≡ get_or (range_with_len 0 n) i 0 = zero_more ∙ sym (get_or-range_with_len 0 n i 0 within) in
    subst (λ j. P (f j)) at (each i within)))

-- ---- words that lead from type to type

chains-from : (g : SchemaValue) (t : ℕ) (word : List Symbol) (u : ℕ) → Leads g t word u → is_chain_from g.edges t word ≡ true
chains-from g t [] u leads = refl
chains-from g t (c ∷ word) u (inside, starts, leads) = both _ _ (equal _ _ starts) (chains-from g (end_of g.edges c) word u leads)

ends-from : (g : SchemaValue) (t : ℕ) (word : List Symbol) (u : ℕ) → Leads g t word u → end_from g.edges t word ≡ u
ends-from g t [] u leads = leads
ends-from g t (c ∷ word) u leads = ends-from g (end_of g.edges c) word u leads.2

edges-in : (g : SchemaValue) (t : ℕ) (word : List Symbol) (u : ℕ) → Leads g t word u → list_all (has_edge (length g.edges)) word ≡ true
edges-in g t [] u leads = refl
edges-in g t (c ∷ word) u leads = both _ _ (below _ _ leads.0) (edges-in g (end_of g.edges c) word u leads.2)

word-starts : (g : SchemaValue) (t : ℕ) (word : List Symbol) (u : ℕ) → LeadsWord g t word u → word_start g.edges word ≡ t
word-starts g t [] u is = absurd (is.some refl)
word-starts g t (c ∷ word) u is = is.leads.1

word-ends : (g : SchemaValue) (t : ℕ) (word : List Symbol) (u : ℕ) → LeadsWord g t word u → word_end g.edges word ≡ u
word-ends g t word u is = ap (λ n. end_from g.edges n word) (word-starts g t word u is) ∙ ends-from g t word u is.leads

word-chains : (g : SchemaValue) (t : ℕ) (word : List Symbol) (u : ℕ) → LeadsWord g t word u → is_chain g.edges word ≡ true
word-chains g t word u is = ap (λ n. is_chain_from g.edges n word) (word-starts g t word u is) ∙ chains-from g t word u is.leads

some-long : {X : Type 0} (xs : List X) → xs ≢ [] → 0 < length xs
some-long [] some = absurd (some refl)
some-long (x ∷ xs) some = omega arith

-- ---- words with the same ends

same-ends : (g : SchemaValue) (t u : ℕ) (words : List (List Symbol)) → All (λ word. LeadsWord g t word u) words → have_same_ends g.edges words ≡ true
same-ends g t u [] all = refl
same-ends g t u (word ∷ words) all =
    let first = All-head (λ w. LeadsWord g t w u) word words all in
    let starts = word-starts g t word u first in
    let ends = word-ends g t word u first in
    list_all-from_All (has_ends g.edges (word_start g.edges word) (word_end g.edges word)) (λ w. LeadsWord g t w u) words
    (λ w is. both _ _ (equal _ _ (word-starts g t w u is ∙ sym starts)) (equal _ _ (word-ends g t w u is ∙ sym ends)))
    (All-tail (λ w. LeadsWord g t w u) word words all)

starred-back : (g : SchemaValue) (t u : ℕ) (star : Bool) (words : List (List Symbol)) → (star ≡ true → t ≡ u) → All (λ word. LeadsWord g t word u) words
    → may_be_starred g.edges star words ≡ true
starred-back g t u false words back all = refl
starred-back g t u true words back all =
    list_all-from_All (comes_back g.edges) (λ w. LeadsWord g t w u) words
    (λ w is. equal _ _ (word-ends g t w u is ∙ sym (back refl) ∙ sym (word-starts g t w u is))) all

-- ---- conjuncts

-- it keeps the rules of texts, and those of what is built
pub record IsKept (edges : List SchemaEdge) (c : ConjunctValue) : Type 0 where
  pub conjunct : IsConjunct edges c
  pub built : is_conjunct (length edges) c ≡ true

abbrev pub ends_are_small : Shape → ℕ → Bool
ends_are_small shape k = list_all (λ i. nat_lt (ends_of shape k i).0 16 && nat_lt (ends_of shape k i).1 16) (range_with_len 0 k)

ends-tested : (shape : Shape) → list_all (ends_are_small shape) (range_with_len 1 8) ≡ true
ends-tested Chain = refl
ends-tested Star = refl
ends-tested Cycle = refl
ends-tested StarChain = refl

and-parts : (a b : Bool) → (a && b) ≡ true → (a ≡ true) × (b ≡ true)
and-parts a b is = (grind (arith), grind (arith))

from-below : (a b : ℕ) → nat_lt a b ≡ true → a < b
from-below a b test = grind (arith, nat_tests)

-- both ends of a conjunct are small
abbrev pub has_small_ends : ConjunctValue → Bool
has_small_ends c = nat_lt c.src 16 && nat_lt c.trg 16

ends-small : (shape : Shape) (k : ℕ) (cs : List ConjunctValue) → HasSkeleton shape k → ends_in cs ≡ map (ends_of shape k) (range_with_len 0 k) → list_all has_small_ends cs ≡ true
ends-small shape k cs is ends =
    let small : ℕ × ℕ → Bool = λ e. nat_lt e.0 16 && nat_lt e.1 16 in
    sym (list_all-map small (λ (c : ConjunctValue). (c.src, c.trg)) cs)
    ∙ ap (list_all small) ends
    ∙ list_all-map small (ends_of shape k) (range_with_len 0 k)
    ∙ passes_at (ends_are_small shape) 1 8 k (ends-tested shape) is.some (omega (arith, is.few))

-- a word of permitted length that leads from type to type
pub record IsLedWord (g : SchemaValue) (t u : ℕ) (word : List Symbol) : Type 0 where
  pub leads : LeadsWord g t word u
  pub few : length word ≤ 32

conjunct-kept : (g : SchemaValue) (t u : ℕ) (c : ConjunctValue) → c.src < 16 → c.trg < 16 → 0 < length c.words → length c.words ≤ 8 → (c.star ≡ true → t ≡ u)
    → All (IsLedWord g t u) c.words → IsKept g.edges c
conjunct-kept g t u c src trg some few back all =
    let leads = All-from_All (IsLedWord g t u) (λ w. LeadsWord g t w u) c.words (λ w is. is.leads) all in
    record {
      conjunct = record {
        src = src;
        trg = trg;
        short =
            both _ _ (at_most _ _ few) (list_all-from_All (is_short_word (length g.edges)) (IsLedWord g t u) c.words
            (λ w is. both _ _ (at_most _ _ is.few) (edges-in g t w u is.leads.leads)) all);
        chains = list_all-from_All (is_chain g.edges) (λ w. LeadsWord g t w u) c.words (λ w is. word-chains g t w u is) leads;
        same_ends = same-ends g t u c.words leads;
        starred = starred-back g t u c.star c.words back leads;
      };
      built =
          both _ _ (below _ _ some) (list_all-from_All (is_word (length g.edges)) (λ w. LeadsWord g t w u) c.words
          (λ w is. both _ _ (below _ _ (some-long w is.some)) (edges-in g t w u is.leads)) leads);
    }

All-from_list_all : {X : Type 0} (p : X → Bool) (P : X → Type 0) (xs : List X) → ((x : X) → p x ≡ true → P x) → list_all p xs ≡ true → All P xs
All-from_list_all p P [] each all = All-nil P
All-from_list_all p P (x ∷ xs) each all =
    let parts = and-parts (p x) (list_all p xs) all in
    All-cons P x xs (each x parts.0) (All-from_list_all p P xs each parts.1)

-- what leads along and has small ends is kept
led-kept : (c : ConfigValue) → IsConfig c → (x : ConjunctValue) → IsLed (reach_of c) c.workload x → has_small_ends x ≡ true → IsKept (schema_of c).edges x
led-kept c is x led small =
    let ends = and-parts (nat_lt x.src 16) (nat_lt x.trg 16) small in
    let g = schema_of c in
    conjunct-kept g led.start led.end x (from-below x.src 16 ends.0) (from-below x.trg 16 ends.1)
    (omega (arith, led.some, is.workload.disjuncts.above)) (omega (arith, led.few, is.workload.disjuncts.small)) led.leads.starred
    (led-words g led.start led.end x.words led.leads.each (All-from_All (λ word. length word ≤ c.workload.length.most) (λ word. length word ≤ 32) x.words
    (λ word few. omega (arith, few, is.workload.words.small)) led.short))
  where
    led-words : (g : SchemaValue) (t u : ℕ) (words : List (List Symbol)) → All (λ word. LeadsWord g t word u) words → All (λ word. length word ≤ 32) words → All (IsLedWord g t u) words
    led-words g t u [] leads short = All-nil (IsLedWord g t u)
    led-words g t u (word ∷ words) leads short =
        All-cons (IsLedWord g t u) word words
        (record { leads = All-head (λ word. LeadsWord g t word u) word words leads; few = All-head (λ word. length word ≤ 32) word words short })
        (led-words g t u words (All-tail (λ word. LeadsWord g t word u) word words leads) (All-tail (λ word. length word ≤ 32) word words short))

all-kept : (c : ConfigValue) → IsConfig c → (xs : List ConjunctValue) → All (IsLed (reach_of c) c.workload) xs → list_all has_small_ends xs ≡ true → All (IsKept (schema_of c).edges) xs
all-kept c is [] led small = All-nil (IsKept (schema_of c).edges)
all-kept c is (x ∷ xs) led small =
    let parts = and-parts (has_small_ends x) (list_all has_small_ends xs) small in
    All-cons (IsKept (schema_of c).edges) x xs (led-kept c is x (All-head (IsLed (reach_of c) c.workload) x xs led) parts.0)
    (all-kept c is xs (All-tail (IsLed (reach_of c) c.workload) x xs led) parts.1)

-- ---- heads

abbrev pub heads_are_small : Shape → ℕ → Bool
heads_are_small shape k = list_all (λ n. list_all (λ v. nat_lt v 16) (heads_of shape k n)) (range_with_len 0 5)

heads-tested : (shape : Shape) → list_all (heads_are_small shape) (range_with_len 1 8) ≡ true
heads-tested Chain = refl
heads-tested Star = refl
heads-tested Cycle = refl
heads-tested StarChain = refl

heads-small : (shape : Shape) (k n : ℕ) → HasSkeleton shape k → n ≤ 4 → All (λ v. v < 16) (heads_of shape k n)
heads-small shape k n is few =
    let row = passes_at (heads_are_small shape) 1 8 k (heads-tested shape) is.some (omega (arith, is.few)) in
    All-from_list_all (λ v. nat_lt v 16) (λ v. v < 16) (heads_of shape k n) (λ v test. from-below v 16 test)
    (passes_at (λ n. list_all (λ v. nat_lt v 16) (heads_of shape k n)) 0 5 n row (omega arith) (omega (arith, few)))

-- ---- rules

module _ (c : ConfigValue) (is : IsConfig c) (seed number : ℕ) (any : has_query c seed number ≡ true) where
  rule-kept : (rule : ℕ) → rule < rule_count c seed number → IsRule (schema_of c).edges (drawn_rule c seed number rule)
  rule-kept rule within =
      let shape = drawn_shape c seed number in
      let k = rule_size c seed number rule in
      let n = drawn_arity c seed number in
      let edges = (schema_of c).edges in
      let value = drawn_rule c seed number rule in
      let begins = rule_is_begun c is seed number rule any in
      let few = arity_few c is seed number in
      let heads = (rule_is_sized c is seed number rule any few).heads within in
      let ends = (drawn_rules_have_skeletons c is seed number rule any).1 in
      let kept = all-kept c is value.conjuncts (drawn_rule_led c is seed number rule any) (ends-small shape k value.conjuncts begins.skeleton ends) in
      let long : length value.conjuncts ≡ k =
      sym (length-map value.conjuncts (λ (x : ConjunctValue). (x.src, x.trg))) ∙ ap length ends ∙ length-map-range_with_len (ends_of shape k) 0 k in
      record {
        small = heads-small shape k n begins.skeleton few;
        built =
            both _ _
            (both _ _ (below 0 (length value.conjuncts) (omega (arith, long, begins.skeleton.some)))
            (list_all-from_All (is_conjunct (length edges)) (IsKept edges) value.conjuncts (λ x kept. kept.built) kept))
            (both _ _ (both _ _ (at_most (length value.heads) 4 (omega (arith, heads.long, few))) heads.differ) (heads_occur shape k n value.conjuncts heads ends));
        few = omega (arith, long, begins.skeleton.few);
        each = All-from_All (IsKept edges) (IsConjunct edges) value.conjuncts (λ x kept. kept.conjunct) kept;
      }

  -- ---- the query

  have-heads : (f : ℕ → RuleValue) (n a : ℕ) → 0 < n → ((i : ℕ) → i < n → length (f i).heads ≡ a)
      → have_heads (arity_of (map f (range_with_len 0 n))) (map f (range_with_len 0 n)) ≡ true
  have-heads f zero a some each = absurd (omega (arith, some))
  have-heads f (suc n) a some each =
      let rules = map f (range_with_len 0 (suc n)) in
      list_all-from_All (λ r. length r.heads == length (f 0).heads) (λ r. length r.heads ≡ a) rules
      (λ r long. equal _ _ (long ∙ sym (each 0 (omega arith)))) (mapped (λ r. length r.heads ≡ a) f (suc n) each)

  some-if : (b : Bool) (x : Class) → is_some (if b then Some x else None) ≡ b
  some-if true x = refl
  some-if false x = refl

  two-variables : (shape : Shape) (k : ℕ) → HasSkeleton shape k → 2 ≤ variables_of shape k
  two-variables Chain k skeleton = omega (arith, skeleton.some)
  two-variables Star k skeleton = omega (arith, skeleton.some)
  two-variables Cycle k skeleton = skeleton.two_paths refl
  two-variables StarChain k skeleton = omega (arith, skeleton.some)

  fold-least : (v : ℕ → ℕ) (n : ℕ) (rules : List ℕ) → 2 ≤ n → ((rule : ℕ) → 2 ≤ v rule) → 2 ≤ fold (λ m rule. min m (v rule)) n rules
  fold-least v n [] least each = least
  fold-least v n (rule ∷ rules) least each = fold-least v (min n (v rule)) rules (omega (arith, least, each rule)) each

  -- in format 1 two heads are wanted, and no rule has fewer variables
  two-heads : c.workload.format ≡ 1 → has_class (drawn_rules c seed number) ≡ true
  two-heads first =
      let w = words_for seed number 0 5 in
      let picks = pick_of-below w 1 (words_for-words seed number 0 5) (omega arith) in
      let wanted : wanted_arity c seed number ≡ 2 =
      ap (λ (range : Range). drawn_from range w) (is.workload.format.pairs first) ∙ (let none : pick_of w 1 ≡ 0 = omega (arith, picks) in ap (λ n. 2 + n) none) in
      let least =
      fold-least (λ rule. variables_of (drawn_shape c seed number) (rule_size c seed number rule)) (wanted_arity c seed number) (range_with_len 0 (rule_count c seed number))
      (omega (arith, wanted)) (λ rule. two-variables _ _ (rule_is_begun c is seed number rule any).skeleton) in
      let most = arity_wanted c seed number in
      let rules = length-map-range_with_len (drawn_rule c seed number) 0 (rule_count c seed number) in
      let some = rules_some c is seed number in
      let two : drawn_arity c seed number ≡ 2 = omega (arith, wanted, least, most) in
      has_class_is c is seed number any (arity_few c is seed number) (omega (arith, rules, some)) ∙ equal _ _ two

  pub query-kept : IsQuery (head_of c) (query_of c seed number)
  query-kept =
      let n = rule_count c seed number in
      let rules = length-map-range_with_len (drawn_rule c seed number) 0 n in
      let some = rules_some c is seed number in
      let few = arity_few c is seed number in
      record {
        labels = refl;
        some = some;
        few = omega (arith, rules, few_rules c is seed number);
        each = mapped (IsRule (schema_of c).edges) (drawn_rule c seed number) n rule-kept;
        arity =
            have-heads (drawn_rule c seed number) n (drawn_arity c seed number) (omega (arith, rules, some))
            (λ rule within. ((rule_is_sized c is seed number rule any few).heads within).long);
        class = some-if (has_class (drawn_rules c seed number)) (drawn_class c seed number);
        wide = wide_is_there c is seed number any;
        format = two-heads;
      }

-- the workload of a configuration keeps the rules of texts
pub workload-kept : (config : ConfigValue) (seed : ℕ) → IsConfig config → CanDraw config seed → IsWork (workload_of config seed)
workload-kept config seed rules can =
    let n = config.workload.queries in
    let long = length-map-range_with_len (query_of config seed) 0 n in
    record {
      head = IsHead-head_of config rules;
      few = omega (arith, long, rules.workload.queries);
      each = mapped (IsQuery (head_of config)) (query_of config seed) n (λ number within. query-kept config rules seed number (can number within));
    }

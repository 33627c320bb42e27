-- The conjuncts of a drawn rule lead along the schema, with words that are few and short.
--   IsLed r w c     all words of a conjunct lead from type to type, as many and as long as is asked for
use Rattle.std.proofs.Common.{◌≡◌, ℕ, suc, ◌+◌, ◌≤◌, true, List, [], ◌∷◌, length, arith}
use Rattle.std.specs.List.{All, range_with_len}
use Rattle.std.proofs.lemmas.List.Elements.{All-nil, All-cons, All-head, All-tail, All-map, All-from_get_or}
use Rattle.std.proofs.lemmas.List.FromFn.{length-map-range_with_len}
use Rattle.sel_algebra.specs.declared.vocabulary.Shape.{Shape}
use Rattle.gm_config.specs.declared.workload_rules.Workload.{Workload}
use Rattle.gm_config.specs.Config.{ConfigValue, IsConfig}
use Rattle.sel_graph.specs.Moves.{ReachValue, IsReach}
use Rattle.sel_graph.specs.Tests.{is_move}
use Rattle.query_terms.specs.Values.{ConjunctValue}
use Rattle.query_draw.specs.declared.legs.Leg.{Leg}
use Rattle.query_draw.specs.Values.{LeadsConjunct}
use Rattle.query_draw.specs.Drawn.{Words, words_for, drawn_word, word_count, conjunct_place, drawn_conjunct, drawn_conjuncts, rule_legs, drawn_start}
use Rattle.query_draw.specs.Drawers.{IsLeg}
use Rattle.query_draw.specs.Query.{reach_of, drawn_shape, drawn_class, rule_size, drawn_rule, has_query}
use Rattle.query_draw.proofs.LegLemmas.{AreWords, words_for-words, drawn_words_are_walks, drawn_conjunct-is}
use Rattle.query_draw.proofs.PathLemmas.{legs_each}
use Rattle.query_draw.proofs.QueryLemmas.{drawn_most}
use Rattle.query_draw.proofs.RuleLemmas.{reach_is, rule_is_begun}

-- its words lead from type to type, and are as many and as long as is asked for
pub record IsLed (r : ReachValue) (w : Workload) (c : ConjunctValue) : Type 0 where
  pub start : ℕ
  pub end : ℕ
  pub leads : LeadsConjunct r.schema start c end
  pub some : w.disjuncts.least ≤ length c.words
  pub few : length c.words ≤ w.disjuncts.most
  pub short : All (λ word. length word ≤ r.lengths.most) c.words

conjunct_led : (r : ReachValue) → IsReach r → (w : Workload) → 1 ≤ w.disjuncts.least → w.disjuncts.least ≤ w.disjuncts.most → (d : Words) → AreWords d → (shape : Shape) (k i : ℕ) (leg : Leg)
    → is_move r leg.from leg.via ≡ true → IsLed r w (drawn_conjunct r w d shape k i leg)
conjunct_led r is w least ordered d words shape k i leg move =
    let long = length-map-range_with_len (drawn_word r d leg i) 0 (word_count w d i) in
    let most = drawn_most w.disjuncts (d (conjunct_place i + 2)) (words (conjunct_place i + 2)) ordered in
    record {
      start = leg.from;
      end = leg.via.to;
      leads = (drawn_conjunct-is r is w least d words shape k i leg move).leads;
      some = omega (arith, long);
      few = omega (arith, long, most);
      short =
          All-map (λ word. length word ≤ r.lengths.most) (drawn_word r d leg i) (range_with_len 0 (word_count w d i))
          (All-from_get_or (λ j. length (drawn_word r d leg i j) ≤ r.lengths.most) (range_with_len 0 (word_count w d i)) 0
          (λ j inside. (drawn_words_are_walks r is d words leg i _ move).most));
    }

conjuncts_led : (r : ReachValue) → IsReach r → (w : Workload) → 1 ≤ w.disjuncts.least → w.disjuncts.least ≤ w.disjuncts.most → (d : Words) → AreWords d → (shape : Shape) (k i : ℕ) (legs : List Leg)
    → All (IsLeg r) legs → All (IsLed r w) (drawn_conjuncts r w d shape k i legs)
conjuncts_led r is w least ordered d words shape k i [] all = All-nil (IsLed r w)
conjuncts_led r is w least ordered d words shape k i (leg ∷ legs) all =
    All-cons (IsLed r w) (drawn_conjunct r w d shape k i leg) (drawn_conjuncts r w d shape k (suc i) legs)
    (conjunct_led r is w least ordered d words shape k i leg (All-head (IsLeg r) leg legs all).move)
    (conjuncts_led r is w least ordered d words shape k (suc i) legs (All-tail (IsLeg r) leg legs all))

-- so do the conjuncts of a drawn rule
pub drawn_rule_led : (c : ConfigValue) → IsConfig c → (seed number rule : ℕ) → has_query c seed number ≡ true → All (IsLed (reach_of c) c.workload) (drawn_rule c seed number rule).conjuncts
drawn_rule_led c is seed number rule any =
    let r = reach_of c in
    let w = c.workload in
    let shape = drawn_shape c seed number in
    let class = drawn_class c seed number in
    let d = words_for seed number rule in
    let words = words_for-words seed number rule in
    let k = rule_size c seed number rule in
    let t = drawn_start r shape class d k in
    let begins = rule_is_begun c is seed number rule any in
    conjuncts_led r (reach_is c is) w is.workload.disjuncts.above is.workload.disjuncts.ordered d words shape k 0 (rule_legs r w d shape class k t)
    (legs_each r (reach_is c is) is.workload.words.ordered w d words shape class k t begins.skeleton begins.live)

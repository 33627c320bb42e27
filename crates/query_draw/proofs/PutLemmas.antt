-- What is put into a query that is being built.
use Rattle.std.proofs.Common.{◌≡◌, ℕ, suc, ◌+◌, ◌<◌, ◌≤◌, Bool, true, Option, Some, None, List, [], ◌∷◌, ◌++◌, length, sym, ap, subst, ◌∙◌, arith}
use Rattle.std.specs.List.{list_any}
use Rattle.std.proofs.lemmas.List.{append_assoc, append-nil, length-append}
use Rattle.std.proofs.lemmas.List.FromFn.{length-map-range_with_len}
use Rattle.candidates.specs.Picked.{picked}
use Rattle.seeded_draw.specs.Draw.{word}
use Rattle.seeded_draw.proofs.WordLemmas.{word-below}
use Rattle.sel_algebra.specs.declared.vocabulary.Class.{Class}
use Rattle.sel_algebra.specs.declared.vocabulary.Shape.{Shape}
use Rattle.sel_algebra.specs.declared.vocabulary.Symbol.{Symbol}
use Rattle.gm_config.specs.declared.workload_rules.Workload.{Workload}
use Rattle.gm_config.specs.declared.workload_rules.Range.{Range}
use Rattle.schema_graph.specs.Schema.{SchemaValue}
use Rattle.skeletons.specs.Skeleton.{spine_of, second_of}
use Rattle.sel_graph.specs.declared.states.State.{State}
use Rattle.sel_graph.specs.declared.states.Move.{Move}
use Rattle.sel_graph.specs.declared.states.Goal.{Goal}
use Rattle.sel_graph.specs.Moves.{ReachValue, IsReach}
use Rattle.sel_graph.specs.States.{carried}
use Rattle.sel_graph.specs.Tests.{can_walk, feasible}
use Rattle.walk_pick.specs.Candidates.{types_of, is_live_start, start_candidates, goal_of, move_candidates, link_candidates, arm_candidates, length_candidates, symbol_candidates}
use Rattle.walk_pick.specs.Laws.{HasSymbol}
use Rattle.walk_pick.proofs.LawLemmas.{starts_never_run_out}
use Rattle.query_terms.specs.Values.{ConjunctValue}
use Rattle.query_terms.specs.Building.{Building, with_symbol, with_word, with_conjunct, with_rule}
use Rattle.query_draw.specs.declared.legs.Leg.{Leg}
use Rattle.query_draw.specs.Drawn.{Words, conjunct_place, word_place, wants_star, spine_move, second_move, arm_leg, drawn_symbol, drawn_symbols, drawn_length, drawn_word, word_count, drawn_words, drawn_start}
use Rattle.query_draw.specs.Drawers.{IsLeg, CanLink, with_symbols}
use Rattle.query_draw.proofs.LegLemmas.{AreWords, picked_is, drawn_symbols-none, drawn_symbols-more, symbols_long, next_symbol, next_length, next_spine_move}
use Rattle.query_draw.proofs.PathLemmas.{first_link, next_second_move, next_arm}

-- the words of a stream are random words
pub stream_words : (seed stream : ℕ) → AreWords (word seed stream)
stream_words seed stream p = word-below seed stream p

-- ---- symbols

with_symbols-none : (b : Building) → with_symbols b [] ≡ b
with_symbols-none b = let zero_more : b.taken + 0 ≡ b.taken = omega arith in λ i. record b { word = append-nil b.word i; taken = zero_more i }

with_symbols-more : (b : Building) (c : Symbol) (cs : List Symbol) → with_symbols b (c ∷ cs) ≡ with_symbols (with_symbol b c) cs
with_symbols-more b c cs =
    let one_more : b.taken + suc (length cs) ≡ b.taken + 1 + length cs = omega arith in
    λ i. record b { word = sym (append_assoc b.word (c ∷ []) cs) i; taken = one_more i }

-- with so many symbols still to be put in, from a state, the query is the one that is wanted
pub record SymbolsLeft (g : SchemaValue) (d : Words) (to : State) (wanted now : Building) (s : State) (n p : ℕ) : Type 0 where
  pub put : wanted ≡ with_symbols now (drawn_symbols g d to s n p)
  pub walk : can_walk g n s to ≡ true

pub SymbolsLeft-more : (g : SchemaValue) (d : Words) (to : State) (wanted now next : Building) (s t : State) (c : Symbol) (n m p q : ℕ) → SymbolsLeft g d to wanted now s n p → n ≡ suc m → q ≡ p + 1
    → c ≡ drawn_symbol g d to s m p → can_walk g m (carried g s c) to ≡ true → next ≡ with_symbol now c → t ≡ carried g s c → SymbolsLeft g d to wanted next t m q
SymbolsLeft-more g d to wanted now next s t c n m p q left same there drawn walk put moved =
    let after : suc p ≡ q = omega (arith, there) in
    let rest : drawn_symbols g d to s n p ≡ c ∷ drawn_symbols g d to t m q =
    ap (λ x. drawn_symbols g d to s x p) same ∙ (drawn_symbols-more g d to s m p ∙ (λ i. sym drawn i ∷ drawn_symbols g d to (carried_again i) m (after i))) in
    record {
      put = left.put ∙ (ap (with_symbols now) rest ∙ (with_symbols-more now c (drawn_symbols g d to t m q) ∙ ap (λ b. with_symbols b (drawn_symbols g d to t m q)) (sym put)));
      walk = subst (λ u. can_walk g m u to ≡ true) (sym moved) walk;
    }
  where
    carried_again : carried g s (drawn_symbol g d to s m p) ≡ t
    carried_again = ap (carried g s) (sym drawn) ∙ sym moved

pub SymbolsLeft-none : (g : SchemaValue) (d : Words) (to : State) (wanted now : Building) (s : State) (n p : ℕ) → SymbolsLeft g d to wanted now s n p → n ≡ 0 → now ≡ wanted
SymbolsLeft-none g d to wanted now s n p left none =
    sym (left.put ∙ (ap (with_symbols now) (ap (λ x. drawn_symbols g d to s x p) none ∙ drawn_symbols-none g d to s p) ∙ with_symbols-none now))

-- ---- words, conjuncts and rules

-- symbols that are put into an empty word are one word more
pub word_put : (b mid new : Building) (xs : List Symbol) → b.word ≡ [] → mid ≡ with_symbols b xs → new ≡ with_word mid
    → new ≡ record b { words = b.words ++ xs ∷ []; taken = new.taken }
word_put b mid new xs none first then =
    let same : new ≡ with_word (with_symbols b xs) = then ∙ ap with_word first in
    same ∙ (λ i. record b { words = b.words ++ (none i ++ xs) ∷ []; word = sym none i; taken = ap (λ x. x.taken) (sym same) i })

-- one more of words that are put in
pub words_put-more : (b now new : Building) (xs ys : List (List Symbol)) (x : List Symbol) → now ≡ record b { words = b.words ++ xs; taken = now.taken }
    → new ≡ record now { words = now.words ++ x ∷ []; taken = new.taken } → ys ≡ xs ++ x ∷ [] → new ≡ record b { words = b.words ++ ys; taken = new.taken }
words_put-more b now new xs ys x first then all =
    then ∙ ((λ i. record (first i) { words = (first i).words ++ x ∷ []; taken = new.taken })
    ∙ (λ i. record b { words = (append_assoc b.words xs (x ∷ []) ∙ ap (λ z. b.words ++ z) (sym all)) i; taken = new.taken }))

pub words_put-none : (b : Building) → b ≡ record b { words = b.words ++ []; taken = b.taken }
words_put-none b = λ i. record b { words = sym (append-nil b.words) i }

-- words that are put where there are none are those of one conjunct more
pub conjunct_put : (b mid new : Building) (ws : List (List Symbol)) (src trg : ℕ) (star : Bool) → b.words ≡ [] → mid ≡ record b { words = b.words ++ ws; taken = mid.taken } → new ≡ with_conjunct mid src trg star
    → new ≡ record b { conjuncts = b.conjuncts ++ record { src = src; trg = trg; star = star; words = ws } ∷ []; taken = new.taken }
conjunct_put b mid new ws src trg star none first then =
    let same = then ∙ ap (λ x. with_conjunct x src trg star) first in
    same ∙ (λ i. record b { conjuncts = b.conjuncts ++ record { src = src; trg = trg; star = star; words = none i ++ ws } ∷ []; words = sym none i; taken = ap (λ x. x.taken) (sym same) i })

-- conjuncts that are put where there are none are those of one rule more
pub rule_put : (b mid new : Building) (cs : List ConjunctValue) (heads : List ℕ) → b.conjuncts ≡ [] → mid ≡ record b { conjuncts = b.conjuncts ++ cs; taken = mid.taken } → new ≡ with_rule mid heads
    → new ≡ record b { rules = b.rules ++ record { heads = heads; conjuncts = cs } ∷ []; taken = new.taken }
rule_put b mid new cs heads none first then =
    let same = then ∙ ap (λ x. with_rule x heads) first in
    same ∙ (λ i. record b { rules = b.rules ++ record { heads = heads; conjuncts = none i ++ cs } ∷ []; conjuncts = sym none i; taken = ap (λ x. x.taken) (sym same) i })

-- ---- picks

-- the symbol that is found is the one that is drawn
pub symbol_found : (g : SchemaValue) (d : Words) (to s : State) (n p w : ℕ) (found : Option Symbol) → AreWords d → can_walk g (n + 1) s to ≡ true → w ≡ d p
    → found ≡ picked w (symbol_candidates g s to n) → found ≡ Some (drawn_symbol g d to s n p)
symbol_found g d to s n p w found words can same is =
    let more : n + 1 ≡ suc n = omega arith in
    is ∙ (ap (λ x. picked x (symbol_candidates g s to n)) same ∙ (next_symbol g d to s n p words (subst (λ m. can_walk g m s to ≡ true) more can)).picked_is)

-- and so is the length
pub length_found : (r : ReachValue) (d : Words) (leg : Leg) (i j w : ℕ) (range : Range) (found : Option ℕ) → AreWords d → IsLeg r leg → range ≡ r.lengths → w ≡ d (word_place i j)
    → found ≡ picked w (length_candidates r leg.from leg.via range) → found ≡ Some (drawn_length r d leg i j)
length_found r d leg i j w range found words is lengths same value =
    value ∙ ((λ k. picked (same k) (length_candidates r leg.from leg.via (lengths k))) ∙ (next_length r d leg i j words is.move).picked_is)

-- and the moves of a spine, of a second path and of an arm
pub spine_move_found : (r : ReachValue) → IsReach r → (w : Workload) (d : Words) → AreWords d → (goal : Goal) (s : State) (n i x : ℕ) (star : Bool) (found : Option Move) → feasible r goal (n + 1) s ≡ true
    → x ≡ d (conjunct_place i + 1) → star ≡ wants_star w d i → found ≡ picked x (move_candidates r s n goal star) → found ≡ Some (spine_move r w d goal s n i)
spine_move_found r is w d words goal s n i x star found can same wanted value =
    let more : n + 1 ≡ suc n = omega arith in
    value ∙ ((λ k. picked (same k) (move_candidates r s n goal (wanted k)))
    ∙ (next_spine_move r is w d words goal s n i (subst (λ m. feasible r goal m s ≡ true) more can)).picked_is)

pub some_same : {X : Type 0} (found : Option X) (x y : X) → found ≡ Some x → found ≡ Some y → x ≡ y
some_same found x y first second = cc

pub some_none : {X : Type 0} (found : Option X) (x : X) → found ≡ Some x → found ≡ None → ⊥
some_none found x some none = cc

pub second_move_found : (r : ReachValue) → IsReach r → (w : Workload) (d : Words) → AreWords d → (end t n i x : ℕ) (star : Bool) (found : Option Move) → CanLink r (n + 1) t end
    → x ≡ d (conjunct_place i + 1) → star ≡ wants_star w d i → found ≡ picked x (link_candidates r t n end star) → found ≡ Some (second_move r w d end t n i)
second_move_found r is w d words end t n i x star found can same wanted value =
    let more : n + 1 ≡ suc n = omega arith in
    value ∙ ((λ k. picked (same k) (link_candidates r t n end (wanted k))) ∙ (next_second_move r is w d words end t n i (first_link r n t end (subst (λ m. CanLink r m t end) more can))).picked_is)

pub arm_found : (r : ReachValue) → IsReach r → r.lengths.least ≤ r.lengths.most → (w : Workload) (d : Words) → AreWords d → (t i x : ℕ) (star : Bool) (found : Option Move) → HasSymbol r.schema t
    → x ≡ d (conjunct_place i + 1) → star ≡ wants_star w d i → found ≡ picked x (arm_candidates r t star) → found ≡ Some (arm_leg r w d t i).via
arm_found r is ordered w d words t i x star found symbol same wanted value =
    value ∙ ((λ k. picked (same k) (arm_candidates r t (wanted k))) ∙ (next_arm r is ordered w d words t i symbol).picked_is)

-- and the type at which a rule starts
pub start_found : (r : ReachValue) (shape : Shape) (class : Class) (k : ℕ) (d : Words) → AreWords d → list_any (is_live_start r (goal_of shape class k) (spine_of shape k)) (types_of r) ≡ true
    → (x moves second : ℕ) (found : Option ℕ) → x ≡ d 4 → moves ≡ spine_of shape k → second ≡ second_of shape k → found ≡ picked x (start_candidates r (record { class = class; second = second }) moves)
    → found ≡ Some (drawn_start r shape class d k)
start_found r shape class k d words any x moves second found same long short value =
    let candidates = start_candidates r (goal_of shape class k) (spine_of shape k) in
    let (t, is, inside, live) = starts_never_run_out r (goal_of shape class k) (spine_of shape k) (d 4) (words 4) any in
    value ∙ ((λ j. picked (same j) (start_candidates r (record { class = class; second = short j }) (long j))) ∙ (is ∙ ap Some (sym (picked_is 0 (d 4) candidates t is))))

-- ---- lengths

-- a conjunct has a word
pub some_words : (r : ReachValue) (w : Workload) (d : Words) (leg : Leg) (i : ℕ) (words : List (List Symbol)) → 1 ≤ w.disjuncts.least → 0 < length (words ++ drawn_words r w d leg i)
some_words r w d leg i words some =
    let long = length-map-range_with_len (drawn_word r d leg i) 0 (word_count w d i) in
    let all = length-append words (drawn_words r w d leg i) in
    omega (arith, long, all, some)

pub word_some : (g : SchemaValue) (d : Words) (to s : State) (n p : ℕ) (b mid : Building) → mid ≡ with_symbols b (drawn_symbols g d to s n p) → 1 ≤ n → 0 < length mid.word
word_some g d to s n p b mid put some =
    let long = symbols_long g d to s n p in
    let all = length-append b.word (drawn_symbols g d to s n p) in
    let same : length mid.word ≡ length (b.word ++ drawn_symbols g d to s n p) = ap (λ x. length x.word) put in
    omega (arith, same, all, long, some)

pub word_few : (g : SchemaValue) (d : Words) (to s : State) (n p : ℕ) (b mid new : Building) → mid ≡ with_symbols b (drawn_symbols g d to s n p) → new ≡ with_word mid → n ≤ 32 → new.taken ≤ b.taken + 32
word_few g d to s n p b mid new put end few =
    let long = symbols_long g d to s n p in
    let first : mid.taken ≡ b.taken + length (drawn_symbols g d to s n p) = ap (λ x. x.taken) put in
    let then : new.taken ≡ mid.taken = ap (λ x. x.taken) end in
    omega (arith, first, then, long, few)

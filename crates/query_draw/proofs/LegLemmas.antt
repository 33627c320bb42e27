-- The words of a drawn leg are walks with its move's value, and drawn legs lead on to the goal.
use Rattle.std.proofs.Common.{◌≡◌, ◌≢◌, ℕ, zero, suc, ◌+◌, ◌^◌, ◌<◌, ◌≤◌, true, if◌then◌else◌, Some, List, [], ◌∷◌, length, map, refl, sym, ap, subst, ◌∙◌, arith}
use Rattle.std.specs.List.{All, range_with_len}
use Rattle.std.proofs.lemmas.Bool.{and_parts}
use Rattle.std.proofs.lemmas.Option.{get_or_from_slice_get}
use Rattle.std.proofs.lemmas.List.Elements.{All-head, All-tail, All-map, All-from_get_or}
use Rattle.std.proofs.lemmas.List.FromFn.{length-map-range_with_len}
use Rattle.candidates.specs.Picked.{picked}
use Rattle.seeded_draw.specs.Draw.{stream_of, pick_of}
use Rattle.seeded_draw.proofs.WordLemmas.{word-below}
use Rattle.sel_algebra.specs.declared.vocabulary.Op.{Op}
use Rattle.sel_algebra.specs.declared.vocabulary.Op.TheVariants.{Equal}
use Rattle.sel_algebra.specs.declared.vocabulary.Shape.{Shape}
use Rattle.sel_algebra.specs.declared.vocabulary.Symbol.{Symbol}
use Rattle.sel_algebra.specs.Operators.{join_of, star_of, typed_composition}
use Rattle.sel_algebra.specs.Table.{kind_at}
use Rattle.gm_config.specs.declared.workload_rules.Workload.{Workload}
use Rattle.schema_graph.specs.Schema.{SchemaValue}
use Rattle.sel_graph.specs.declared.states.State.{State}
use Rattle.sel_graph.specs.declared.states.Move.{Move}
use Rattle.sel_graph.specs.declared.states.Goal.{Goal}
use Rattle.sel_graph.specs.States.{begun, came_to, carried}
use Rattle.sel_graph.specs.Runs.{Runs}
use Rattle.sel_graph.specs.Walks.{CarriesBySymbol}
use Rattle.sel_graph.specs.Values.{value_of}
use Rattle.sel_graph.specs.Moves.{ReachValue, IsReach, effect, moved}
use Rattle.sel_graph.specs.Numbers.{all_moves}
use Rattle.sel_graph.specs.Tests.{can_walk, is_move, move_on, feasible, meets}
use Rattle.sel_graph.proofs.RunLemmas.{can_run-none}
use Rattle.sel_graph.proofs.WalkLemmas.{walk_agrees}
use Rattle.sel_graph.proofs.MoveLemmas.{move_agrees}
use Rattle.sel_graph.proofs.ValueLemmas.{walks_have_values}
use Rattle.walk_pick.specs.Candidates.{move_candidates, has_length, length_candidates, symbol_candidates}
use Rattle.walk_pick.proofs.LawLemmas.{moves_never_run_out, lengths_never_run_out, symbols_never_run_out}
use Rattle.query_terms.specs.Values.{ConjunctValue}
use Rattle.query_draw.specs.declared.legs.Leg.{Leg}
use Rattle.query_draw.specs.Drawn.{Words, words_for, picked_or, conjunct_place, word_place, symbol_place, wants_star, no_move, spine_move, spine_legs, no_symbol, drawn_symbol, drawn_symbols, drawn_length, drawn_word, word_count, drawn_words, drawn_conjunct, drawn_conjuncts}
use Rattle.query_draw.specs.Values.{Leads, LeadsWord, LeadsConjunct, LeadsSpine, word_value, union_value, conjunct_value, composed_along}
use Rattle.query_draw.specs.Laws.{IsWordOf, DrawnWordsAreWalks}
use Rattle.query_draw.proofs.WideLemmas.{LeadsWord-start, LeadsConjunct-end}

-- ---- words and picks

-- each random word is below 2 ^ 64
abbrev pub AreWords : Words → Type 0
AreWords d = (p : ℕ) → d p < 2 ^ 64

pub words_for-words : (seed query rule : ℕ) → AreWords (words_for seed query rule)
words_for-words seed query rule p = word-below seed (stream_of 7 query rule) p

-- what a word picks is the candidate that was picked
pub picked_is : {X : Type 0} (x : X) (w : ℕ) (xs : List X) (c : X) → picked w xs ≡ Some c → picked_or x w xs ≡ c
picked_is x w xs c is = get_or_from_slice_get xs (pick_of w (length xs)) c x is

pub drawn_symbols-none : (g : SchemaValue) (d : Words) (to s : State) (p : ℕ) → drawn_symbols g d to s zero p ≡ []
unfolding drawn_symbols
drawn_symbols-none g d to s p = refl

pub drawn_symbols-more : (g : SchemaValue) (d : Words) (to s : State) (n p : ℕ)
    → drawn_symbols g d to s (suc n) p ≡ drawn_symbol g d to s n p ∷ drawn_symbols g d to (carried g s (drawn_symbol g d to s n p)) n (suc p)
unfolding drawn_symbols
drawn_symbols-more g d to s n p = refl

pub spine_legs-none : (r : ReachValue) (w : Workload) (d : Words) (goal : Goal) (s : State) (i : ℕ) → spine_legs r w d goal s zero i ≡ []
unfolding spine_legs
spine_legs-none r w d goal s i = refl

pub spine_legs-more : (r : ReachValue) (w : Workload) (d : Words) (goal : Goal) (s : State) (n i : ℕ)
    → spine_legs r w d goal s (suc n) i ≡ record { from = s.at; via = spine_move r w d goal s n i } ∷ spine_legs r w d goal (moved r.schema s (spine_move r w d goal s n i)) n (suc i)
unfolding spine_legs
spine_legs-more r w d goal s n i = refl

-- ---- words

-- what is known of the next symbol
pub record IsNext (g : SchemaValue) (d : Words) (to s : State) (n p : ℕ) (c : Symbol) : Type 0 where
  pub picked_is : picked (d p) (symbol_candidates g s to n) ≡ Some c
  pub carries : CarriesBySymbol g s c (carried g s c)
  pub keeps : can_walk g n (carried g s c) to ≡ true

pub next_symbol : (g : SchemaValue) (d : Words) (to s : State) (n p : ℕ) → AreWords d → can_walk g (suc n) s to ≡ true → IsNext g d to s n p (drawn_symbol g d to s n p)
next_symbol g d to s n p words can =
    let (c, is, carries, keeps) = symbols_never_run_out g s to n (d p) (words p) can in
    subst (IsNext g d to s n p) (sym (picked_is no_symbol (d p) (symbol_candidates g s to n) c is)) (record { picked_is = is; carries = carries; keeps = keeps })

no_run : {A C : Type 0} (Carries : A → C → A → Type 0) (word : List C) (s t : A) → length word ≡ 0 → Runs Carries word s t → s ≡ t
no_run Carries [] s t none same = same
no_run Carries (c ∷ word) s t none runs = absurd (omega (arith, none))

-- the drawn symbols carry a state to the other
pub symbols_run : (g : SchemaValue) (d : Words) (to s : State) (n p : ℕ) → AreWords d → can_walk g n s to ≡ true → Runs (CarriesBySymbol g) (drawn_symbols g d to s n p) s to
symbols_run g d to s zero p words can =
    let walk = (walk_agrees g 0 s to).0 can in
    subst (λ word. Runs (CarriesBySymbol g) word s to) (sym (drawn_symbols-none g d to s p)) (no_run (CarriesBySymbol g) walk.word s walk.end walk.long walk.runs ∙ walk.meets)
symbols_run g d to s (suc n) p words can =
    let next = next_symbol g d to s n p words can in
    let c = drawn_symbol g d to s n p in
    subst (λ word. Runs (CarriesBySymbol g) word s to) (sym (drawn_symbols-more g d to s n p)) (carried g s c, next.carries, symbols_run g d to (carried g s c) n (suc p) words next.keeps)

-- so many symbols are drawn
pub symbols_long : (g : SchemaValue) (d : Words) (to s : State) (n p : ℕ) → length (drawn_symbols g d to s n p) ≡ n
symbols_long g d to s zero p = ap length (drawn_symbols-none g d to s p)
symbols_long g d to s (suc n) p = ap length (drawn_symbols-more g d to s n p) ∙ ap suc (symbols_long g d to (carried g s (drawn_symbol g d to s n p)) n (suc p))

-- symbols that carry a state lead from where it has come
pub runs_lead : (g : SchemaValue) (word : List Symbol) (s t : State) → Runs (CarriesBySymbol g) word s t → Leads g s.at word t.at
runs_lead g [] s t same = ap (λ x. x.at) same
runs_lead g (c ∷ word) s t (u, (known, starts, carries), runs) =
    (known, starts, subst (λ x. Leads g x word t.at) (sym (ap (λ x. x.at) carries)) (runs_lead g word u t runs))

-- what is known of the length of a word
pub record IsLength (r : ReachValue) (d : Words) (leg : Leg) (i j n : ℕ) : Type 0 where
  pub picked_is : picked (d (word_place i j)) (length_candidates r leg.from leg.via r.lengths) ≡ Some n
  pub least : r.lengths.least ≤ n
  pub most : n ≤ r.lengths.most
  pub live : has_length r leg.from leg.via n ≡ true

pub next_length : (r : ReachValue) (d : Words) (leg : Leg) (i j : ℕ) → AreWords d → is_move r leg.from leg.via ≡ true → IsLength r d leg i j (drawn_length r d leg i j)
next_length r d leg i j words move =
    let (n, is, least, most, live) = lengths_never_run_out r leg.from leg.via (d (word_place i j)) (words (word_place i j)) move in
    subst (IsLength r d leg i j) (sym (picked_is 0 (d (word_place i j)) (length_candidates r leg.from leg.via r.lengths) n is)) (record { picked_is = is; least = least; most = most; live = live })

-- each word that is drawn for a leg is one of its move
pub drawn_words_are_walks : DrawnWordsAreWalks
drawn_words_are_walks r is d words leg i j move =
    let g = r.schema in
    let to = came_to leg.from leg.via.to leg.via.value in
    let n = drawn_length r d leg i j in
    let length_is = next_length r d leg i j words move in
    let long = symbols_long g d to (begun leg.from) n (symbol_place i j) in
    let runs = symbols_run g d to (begun leg.from) n (symbol_place i j) words length_is.live in
    let word = drawn_word r d leg i j in
    let leads : LeadsWord g leg.from word leg.via.to = record { some = λ none. let zero_long = ap length none in absurd (omega (arith, zero_long, long, length_is.least, is.some)); leads = runs_lead g word (begun leg.from) to runs } in
    record {
      leads = leads;
      value = ap (λ t. value_of g t word) (LeadsWord-start g leg.from leg.via.to word leads) ∙ sym (walks_have_values g word (begun leg.from) to runs);
      least = omega (arith, long, length_is.least);
      most = omega (arith, long, length_is.most);
    }

-- ---- conjuncts

all_mapped : (P : List Symbol → Type 0) (f : ℕ → List Symbol) (a n : ℕ) → ((j : ℕ) → P (f j)) → All P (map f (range_with_len a n))
all_mapped P f a n each = All-map P f (range_with_len a n) (All-from_get_or (λ j. P (f j)) (range_with_len a n) 0 (λ i inside. each _))

one_value : (g : SchemaValue) (v : Op) (words : List (List Symbol)) → words ≢ [] → All (λ word. word_value g word ≡ v) words → union_value g words ≡ v
one_value g v [] some all = absurd (some refl)
one_value g v (word ∷ []) some all = ap (λ x. join_of x Equal) (All-head (λ w. word_value g w ≡ v) word [] all) ∙ right v
  where
    right : (a : Op) → join_of a Equal ≡ a
    right a = grind (arith)
one_value g v (word ∷ next ∷ words) some all =
    let first = All-head (λ w. word_value g w ≡ v) word (next ∷ words) all in
    let rest = one_value g v (next ∷ words) (λ none. absurd (cc)) (All-tail (λ w. word_value g w ≡ v) word (next ∷ words) all) in
    (λ i. join_of (first i) (rest i)) ∙ same v
  where
    same : (a : Op) → join_of a a ≡ a
    same a = grind (arith)

-- a drawn conjunct leads where its move does, and has the move's effect as its value
pub record IsConjunctOf (r : ReachValue) (leg : Leg) (c : ConjunctValue) : Type 0 where
  pub leads : LeadsConjunct r.schema leg.from c leg.via.to
  pub value : conjunct_value r.schema c ≡ effect leg.via

pub drawn_conjunct-is : (r : ReachValue) → IsReach r → (w : Workload) → 1 ≤ w.disjuncts.least → (d : Words) → AreWords d → (shape : Shape) (k i : ℕ) (leg : Leg) → is_move r leg.from leg.via ≡ true
    → IsConjunctOf r leg (drawn_conjunct r w d shape k i leg)
drawn_conjunct-is r is w least d words shape k i leg move =
    let g = r.schema in
    let ws = drawn_words r w d leg i in
    let each : (j : ℕ) → IsWordOf r leg (drawn_word r d leg i j) = λ j. drawn_words_are_walks r is d words leg i j move in
    let long : length ws ≡ word_count w d i = length-map-range_with_len (drawn_word r d leg i) 0 (word_count w d i) in
    let some : ws ≢ [] = λ none. let zero_long = ap length none in absurd (omega (arith, zero_long, long, least)) in
    let value = one_value g leg.via.value ws some (all_mapped (λ word. word_value g word ≡ leg.via.value) (drawn_word r d leg i) 0 (word_count w d i) (λ j. (each j).value)) in
    record {
      leads = record {
        some = some;
        each = all_mapped (λ word. LeadsWord g leg.from word leg.via.to) (drawn_word r d leg i) 0 (word_count w d i) (λ j. (each j).leads);
        starred = λ star. sym (((move_agrees r leg.from leg.via).0 move).starred star).1;
      };
      value = ap (λ v. if leg.via.star then star_of v else v) value;
    }

-- ---- legs that lead on

-- the state after legs
abbrev pub after_legs : SchemaValue → State → List Leg → State
after_legs g s [] = s
after_legs g s (leg ∷ legs) = after_legs g (moved g s leg.via) legs

-- moves lead from type t to type u, one after another
abbrev pub AreLegs : ReachValue → ℕ → List Leg → ℕ → Type 0
AreLegs r t [] u = t ≡ u
AreLegs r t (leg ∷ legs) u = (leg.from ≡ t) × (is_move r leg.from leg.via ≡ true) × AreLegs r leg.via.to legs u

-- what is known of the next move of a spine
pub record IsSpineMove (r : ReachValue) (w : Workload) (d : Words) (goal : Goal) (s : State) (n i : ℕ) (m : Move) : Type 0 where
  pub picked_is : picked (d (conjunct_place i + 1)) (move_candidates r s n goal (wants_star w d i)) ≡ Some m
  pub move : is_move r s.at m ≡ true
  pub more : feasible r goal n (moved r.schema s m) ≡ true

pub next_spine_move : (r : ReachValue) → IsReach r → (w : Workload) (d : Words) → AreWords d → (goal : Goal) (s : State) (n i : ℕ) → feasible r goal (suc n) s ≡ true
    → IsSpineMove r w d goal s n i (spine_move r w d goal s n i)
next_spine_move r is w d words goal s n i can =
    let place = conjunct_place i + 1 in
    let (m, picks, keeps) = moves_never_run_out r is s n goal (wants_star w d i) (d place) (words place) can in
    let (move, more) = and_parts (is_move r s.at m) (feasible r goal n (moved r.schema s m)) keeps in
    subst (IsSpineMove r w d goal s n i) (sym (picked_is no_move (d place) (move_candidates r s n goal (wants_star w d i)) m picks)) (record { picked_is = picks; move = move; more = more })

-- the legs of a spine lead on, and the state after them meets the goal
pub spine_legs-lead : (r : ReachValue) → IsReach r → (w : Workload) (d : Words) → AreWords d → (goal : Goal) (s : State) (n i : ℕ) → feasible r goal n s ≡ true
    → AreLegs r s.at (spine_legs r w d goal s n i) (after_legs r.schema s (spine_legs r w d goal s n i)).at × (meets r goal (after_legs r.schema s (spine_legs r w d goal s n i)) ≡ true)
spine_legs-lead r is w d words goal s zero i can =
    subst (λ legs. AreLegs r s.at legs (after_legs r.schema s legs).at × (meets r goal (after_legs r.schema s legs) ≡ true)) (sym (spine_legs-none r w d goal s i))
    (refl, sym (can_run-none (move_on r) (all_moves (length r.schema.kinds)) (meets r goal) s) ∙ can)
spine_legs-lead r is w d words goal s (suc n) i can =
    let next = next_spine_move r is w d words goal s n i can in
    let m = spine_move r w d goal s n i in
    let (lead, met) = spine_legs-lead r is w d words goal (moved r.schema s m) n (suc i) next.more in
    subst (λ legs. AreLegs r s.at legs (after_legs r.schema s legs).at × (meets r goal (after_legs r.schema s legs) ≡ true)) (sym (spine_legs-more r w d goal s n i)) ((refl, next.move, lead), met)

-- the conjuncts of such legs lead on, and their values compose to the operator of the state after them
pub conjuncts_lead : (r : ReachValue) → IsReach r → (w : Workload) → 1 ≤ w.disjuncts.least → (d : Words) → AreWords d → (shape : Shape) (k i : ℕ) (s : State) (u : ℕ) (legs : List Leg) → AreLegs r s.at legs u
    → LeadsSpine r.schema s.at (drawn_conjuncts r w d shape k i legs) u × (composed_along r.schema s.start s.op (drawn_conjuncts r w d shape k i legs) ≡ (after_legs r.schema s legs).op)
conjuncts_lead r is w least d words shape k i s u [] same = (same, refl)
conjuncts_lead r is w least d words shape k i s u (leg ∷ legs) (from, move, rest) =
    let g = r.schema in
    let here = drawn_conjunct-is r is w least d words shape k i leg move in
    let (leads, value) = conjuncts_lead r is w least d words shape k (suc i) (moved g s leg.via) u legs rest in
    let end = LeadsConjunct-end g leg.from leg.via.to (drawn_conjunct r w d shape k i leg) here.leads in
    let cs = drawn_conjuncts r w d shape k (suc i) legs in (
      (leg.via.to, subst (λ t. LeadsConjunct g t (drawn_conjunct r w d shape k i leg) leg.via.to) from here.leads, leads),
      (λ j. composed_along g s.start (typed_composition s.op (here.value j) (kind_at g.kinds s.start) (kind_at g.kinds (end j))) cs) ∙ value,
    )

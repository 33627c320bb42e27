-- The laws of picks.
use Rattle.std.proofs.Common.{◌≡◌, ◌⊎◌, ℕ, zero, suc, ◌+◌, ◌-◌, ◌^◌, ◌<◌, ◌≤◌, ◌==◌, Bool, true, false, not, ◌&&◌, ◌||◌, Option, Some, List, [], ◌∷◌, length, filter, inl, inr, refl, sym, ap, ◌∙◌, arith}
use Rattle.std.specs.List.{Contains, list_any, All}
use Rattle.std.proofs.lemmas.List.Elements.{All-filter, All-from_get_or, filter_passes}
use Rattle.std.specs.Option.{IfSome}
use Rattle.std.proofs.lemmas.Bool.{false≢true, eqb-true, eq-eqb, and_parts, and_from, cases_Bool}
use Rattle.std.proofs.lemmas.List.Folds.{list_any-from_Any}
use Rattle.std.proofs.lemmas.List.FromFn.{length-range_with_len, get_or-range_with_len}
use Rattle.sel_algebra.specs.declared.vocabulary.Symbol.{Symbol}
use Rattle.schema_graph.specs.declared.edge.SchemaEdge.{SchemaEdge}
use Rattle.schema_graph.specs.Edge.{taken, edge_at, start_of, end_of}
use Rattle.schema_graph.specs.Schema.{SchemaValue}
use Rattle.schema_graph.specs.Symbols.{first_symbols, starts_at, symbols_of}
use Rattle.schema_graph.proofs.SymbolLemmas.{first_symbols-below}
use Rattle.gm_config.specs.declared.workload_rules.Range.{Range}
use Rattle.sel_graph.specs.Runs.{Runs}
use Rattle.sel_graph.proofs.RunLemmas.{first_letter}
use Rattle.candidates.specs.Picked.{picked}
use Rattle.candidates.proofs.PickLemmas.{filter_none, picked_some, picked_passes, at_slice_get, picked_or_others, numbers_that-at}
use Rattle.sel_graph.specs.declared.states.State.{State}
use Rattle.sel_graph.specs.declared.states.Move.{Move}
use Rattle.sel_graph.specs.States.{place_of, place, begun, came_to, carried}
use Rattle.sel_graph.specs.Walks.{CarriesBySymbol, HasWalk}
use Rattle.sel_graph.specs.Moves.{ReachValue, IsReach, IsMove, moved}
use Rattle.sel_graph.specs.Numbers.{moves_of, all_moves}
use Rattle.sel_graph.specs.Tests.{carry, can_reach, numbers_of, is_plain, is_move, move_on, join_on, joins, meets, feasible}
use Rattle.sel_graph.proofs.PlaceLemmas.{same_state}
use Rattle.sel_graph.proofs.WalkLemmas.{if_some, walk_start}
use Rattle.sel_graph.proofs.MoveLemmas.{moves_of-contain, move_agrees, move_inside}
use Rattle.walk_pick.specs.Candidates.{types_of, is_live_start, start_candidates, is_live_count, live_moves, keeps_goal, keeps_end, has_length, keeps_walk}
use Rattle.walk_pick.specs.Laws.{HasSymbol, PickedCountsAreLive, StartsNeverRunOut, MovesNeverRunOut, LinksNeverRunOut, ArmsNeverRunOut, MovesHaveSymbols, LengthsNeverRunOut, SymbolsNeverRunOut}

-- ---- numbers of conjuncts, and starts

-- the numbers of a range lie in it
numbers_within : (range : Range) → All (λ n. (range.least ≤ n) × (n ≤ range.most)) (numbers_of range)
numbers_within range = All-from_get_or (λ n. (range.least ≤ n) × (n ≤ range.most)) (numbers_of range) 0 (λ i inside.
    let count = range.most + 1 - range.least in
    let within : i < count = rw (length-range_with_len range.least count) at inside in
    rw (get_or-range_with_len range.least count i 0 within) (omega arith, omega (arith, within)))

-- a number of a range that a word picks lies in it, and passes
pub picked_within : (range : Range) (w : ℕ) (p : ℕ → Bool) (n : ℕ) → picked w (filter p (numbers_of range)) ≡ Some n → (range.least ≤ n) × (n ≤ range.most) × (p n ≡ true)
picked_within range w p n is =
    let within = at_slice_get (λ n. (range.least ≤ n) × (n ≤ range.most)) (filter p (numbers_of range)) _ n (All-filter p (λ n. (range.least ≤ n) × (n ≤ range.most)) (numbers_of range) (numbers_within range)) is in
    (within.0, within.1, picked_passes w p (numbers_of range) n is)

-- a number of conjuncts that a word picks is in the range, and some start can meet the goal with it
pub picked_counts_are_live : PickedCountsAreLive
picked_counts_are_live r shape class range w k is = picked_within range w (is_live_count r shape class) k is

-- what holds of the value of an option holds of it
if_some_at : (P : ℕ → Type 0) (o : Option ℕ) (t : ℕ) → o ≡ Some t → IfSome o P → P t
if_some_at P o t is holds = rw is at holds

-- where some start can meet the goal, each word picks one that can
pub starts_never_run_out : StartsNeverRunOut
starts_never_run_out r goal n w word any =
    let (t, is, live) = picked_some w (is_live_start r goal n) (types_of r) word any in
    let here = if_some_at (λ u. (u < length r.schema.kinds) × (is_live_start r goal n u ≡ true)) (picked w (start_candidates r goal n)) t is
    (numbers_that-at (is_live_start r goal n) (length r.schema.kinds) _) in
    (t, is, here.0, live)

-- ---- moves of a kind

-- where a move passes, some move of its kind does
any_of_kind : (test : Move → Bool) (k : ℕ) (m : Move) (star : Bool) → m.star ≡ star → m.to < k → test m ≡ true → list_any test (moves_of k star) ≡ true
any_of_kind test k m star kind inside passes =
    let (i, within, is) = moves_of-contain k m inside in
    rw (← kind) (list_any-from_Any test (moves_of k m.star) (i, m, within, is, passes))

-- one kind is the other or not
same_or_not : (a b : Bool) → (a ≡ b) ⊎ (a ≡ not b)
same_or_not false false = inl refl
same_or_not false true = inr refl
same_or_not true false = inr refl
same_or_not true true = inl refl

-- where a move passes, each word picks one that does, whatever kind is wanted
picked_live : (test : Move → Bool) (k : ℕ) (star : Bool) (w : ℕ) (m : Move) → w < 2 ^ 64 → m.to < k → test m ≡ true
    → (x : Move) × (picked w (live_moves test k star) ≡ Some x) × (test x ≡ true)
picked_live test k star w m word inside passes = elim (cases_Bool (list_any test (moves_of k star))) [
  | inl hit ↦ let (x, is, live) = picked_some w test (moves_of k star) word hit in (x, picked_or_others w _ _ x is, live)
  | inr miss ↦ elim (same_or_not m.star star) [
    | inl same ↦ absurd (false≢true (sym miss ∙ any_of_kind test k m star same inside passes))
    | inr other ↦
        let (x, is, live) = picked_some w test (moves_of k (not star)) word (any_of_kind test k m (not star) other inside passes) in
        (x, rw (filter_none test (moves_of k star) miss) is, live)
  ]
]

-- where a move from a type passes, each word picks one that does, whatever kind is wanted
picked_move : (r : ReachValue) → IsReach r → (t : ℕ) (test : Move → Bool) (star : Bool) (w : ℕ) (m : Move) → w < 2 ^ 64 → is_move r t m ≡ true → test m ≡ true
    → (x : Move) × (picked w (live_moves test (length r.schema.kinds) star) ≡ Some x) × (test x ≡ true)
picked_move r is t test star w m word move passes =
    picked_live test (length r.schema.kinds) star w m word (move_inside r is t m ((move_agrees r t m).0 move)) passes

-- where n + 1 moves can meet the goal, each word picks a move after which n can
pub moves_never_run_out : MovesNeverRunOut
moves_never_run_out r is s n goal star w word can =
    let (m, has, (u, leads, more)) = first_letter (move_on r) (all_moves (length r.schema.kinds)) (meets r goal) n s can in
    let (move, same) = if_some (is_move r s.at m) (moved r.schema s m) u leads in
    let after : feasible r goal n (moved r.schema s m) ≡ true = ap (feasible r goal n) same ∙ more in
    picked_move r is s.at (keeps_goal r s n goal) star w m word move (and_from (is_move r s.at m) (feasible r goal n (moved r.schema s m)) move after)

-- where n + 1 moves can come to a type, each word picks a move after which n can
pub links_never_run_out : LinksNeverRunOut
links_never_run_out r is t n end star w word can =
    let (m, has, (u, leads, more)) = first_letter (join_on r) (all_moves (length r.schema.kinds)) (λ v. v == end) n t can in
    let (move, same) = if_some (is_move r t m) m.to u leads in
    let after : joins r n m.to end ≡ true = ap (λ v. joins r n v end) same ∙ more in
    picked_move r is t (keeps_end r t n end) star w m word move (and_from (is_move r t m) (joins r n m.to end) move after)

-- ---- walks from types with symbols

-- taken the other way, an edge starts where it ended
taken-back : (back : Bool) (e : SchemaEdge) → (taken (not back) e).source ≡ (taken back e).target
taken-back false e = refl
taken-back true e = refl

-- where a symbol ends, one starts: the same, taken the other way
symbol_after : (g : SchemaValue) (c : Symbol) → c.edge < length g.edges → HasSymbol g (end_of g.edges c)
symbol_after g c known = (record { edge = c.edge; back = not c.back }, known, taken-back c.back (edge_at g.edges c.edge))

-- from a type with a symbol there is a walk of each length
walk_on : (g : SchemaValue) (n : ℕ) (s : State) → HasSymbol g s.at → (t : State) × HasWalk g n s t
walk_on g zero s some = (s, record { word = []; long = refl; end = s; runs = refl; meets = refl })
walk_on g (suc n) s (c, known, starts) =
    let (t, walk) = walk_on g n (carried g s c) (symbol_after g c known) in
    (t, record { word = c ∷ walk.word; long = ap suc walk.long; end = walk.end; runs = (carried g s c, (known, starts, refl), walk.runs); meets = walk.meets })

-- from a type with a symbol there is a walk of each length to some type, with some operator
walk_from : (g : SchemaValue) (n t : ℕ) → HasSymbol g t → (u : State) × HasWalk g n (begun t) (came_to t u.at u.op)
walk_from g n t some =
    let (u, walk) = walk_on g n (begun t) some in
    let end = walk.end in
    (end, record { word = walk.word; long = walk.long; end = end; runs = walk.runs; meets = same_state end (came_to t end.at end.op) (walk_start g walk.word (begun t) end walk.runs) refl refl })

-- from a type with a symbol there is a plain move
some_move : (r : ReachValue) (t : ℕ) → r.lengths.least ≤ r.lengths.most → HasSymbol r.schema t → (m : Move) × IsMove r t m
some_move r t lengths some =
    let (u, walk) = walk_from r.schema r.lengths.least t some in
    (record { star = false; to = u.at; value = u.op }, record { plain = (r.lengths.least, omega arith, lengths, walk); starred = λ is. absurd (false≢true is) })

-- from a type with a symbol each word picks a move
pub arms_never_run_out : ArmsNeverRunOut
arms_never_run_out r is lengths t star w word some =
    let (m, move) = some_move r t lengths some in
    let there = (move_agrees r t m).1 move in
    picked_move r is t (is_move r t) star w m word there there

-- some symbols lead from a type with a symbol to a type with a symbol
symbol_at_end : (g : SchemaValue) (word : List Symbol) (s t : State) → HasSymbol g s.at → Runs (CarriesBySymbol g) word s t → HasSymbol g t.at
symbol_at_end g [] s t some same = rw (← same) some
symbol_at_end g (c ∷ word) s t some (u, carries, runs) = symbol_at_end g word u t (rw (← carries.2) (symbol_after g c carries.0)) runs

-- a walk of a symbol or more leads from a type with a symbol to a type with a symbol
walk_symbols : (g : SchemaValue) (n : ℕ) (s t : State) → 1 ≤ n → HasWalk g n s t → HasSymbol g s.at × HasSymbol g t.at
walk_symbols g n s t some walk = both walk.word walk.long walk.runs
  where
    both : (word : List Symbol) → length word ≡ n → Runs (CarriesBySymbol g) word s walk.end → HasSymbol g s.at × HasSymbol g t.at
    both [] long runs = absurd (omega (arith, long, some))
    both (c ∷ word) long (u, carries, runs) =
        let start : HasSymbol g s.at = (c, carries.0, carries.1) in
        (start, rw (← walk.meets) (symbol_at_end g (c ∷ word) s walk.end start (u, carries, runs)))

-- a move leads from a type with a symbol to a type with a symbol
pub moves_have_symbols : MovesHaveSymbols
moves_have_symbols r is t m test =
    let (n, least, most, walk) = ((move_agrees r t m).0 test).plain in
    walk_symbols r.schema n (begun t) (came_to t m.to m.value) (omega (arith, least, is.some)) walk

-- ---- lengths and symbols

-- where some number passes a test, one passes it beside what is true anyway
any_with : (f : ℕ → Bool) (b : Bool) (xs : List ℕ) → b ≡ true → list_any f xs ≡ true → list_any (λ n. b && f n) xs ≡ true
any_with f b xs is any = rw is any

-- of a move each word picks a length that it can have
pub lengths_never_run_out : LengthsNeverRunOut
lengths_never_run_out r t m w word move =
    let (plain, star) = and_parts (is_plain r t m.to m.value) _ move in
    let (n, is, live) = picked_some w (has_length r t m) (numbers_of r.lengths) word
    (any_with (λ n. can_reach r.schema n (begun t) (place_of m.to m.value)) (t == t) (numbers_of r.lengths) (eq-eqb t t refl) plain) in
    let within = picked_within r.lengths w (has_length r t m) n is in
    (n, is, within.0, within.1, live)

-- a symbol that a word picks starts where the state has come, and carries it
pub picked_carries : (g : SchemaValue) (s : State) (p : Symbol → Bool) (w : ℕ) (c : Symbol) → picked w (filter p (symbols_of g.edges s.at)) ≡ Some c → CarriesBySymbol g s c (carried g s c)
picked_carries g s p w c is =
    let all = first_symbols (length g.edges) in
    let starts = starts_at g.edges s.at in
    let known = at_slice_get (λ x. x.edge < length g.edges) (filter p (filter starts all)) _ c
    (All-filter p (λ x. x.edge < length g.edges) (filter starts all) (All-filter starts (λ x. x.edge < length g.edges) all (first_symbols-below (length g.edges)))) is in
    let here = at_slice_get (λ x. starts x ≡ true) (filter p (filter starts all)) _ c (All-filter p (λ x. starts x ≡ true) (filter starts all) (filter_passes starts all)) is in
    (known, eqb-true (start_of g.edges c) s.at here, refl)

-- something passes among what passes another test just where something passes both
any_of_passing : {X : Type 0} (p q : X → Bool) (xs : List X) → list_any p (filter q xs) ≡ list_any (λ x. q x && p x) xs
any_of_passing p q [] = refl
any_of_passing p q (x ∷ xs) = elim (cases_Bool (q x)) [
  | inl hit ↦ rw hit (ap (λ b. p x || b) (any_of_passing p q xs))
  | inr miss ↦ rw miss (any_of_passing p q xs)
]

-- a symbol from where s has come, after which n can lead on, is a candidate
some_symbol : (g : SchemaValue) (s to : State) (n : ℕ) (c : Symbol) → Contains (first_symbols (length g.edges)) c → (start_of g.edges c == s.at) ≡ true → keeps_walk g s to n c ≡ true
    → list_any (keeps_walk g s to n) (filter (starts_at g.edges s.at) (first_symbols (length g.edges))) ≡ true
some_symbol g s to n c (i, inside, is) starts keeps =
    any_of_passing (keeps_walk g s to n) (starts_at g.edges s.at) (first_symbols (length g.edges))
    ∙ list_any-from_Any (λ x. starts_at g.edges s.at x && keeps_walk g s to n x) (first_symbols (length g.edges))
    (i, c, inside, is, and_from (starts_at g.edges s.at c) (keeps_walk g s to n c) starts keeps)

-- where n + 1 symbols can lead to a state, each word picks a symbol after which n can
pub symbols_never_run_out : SymbolsNeverRunOut
symbols_never_run_out g s to n w word can =
    let (start, reach) = and_parts (to.start == s.start) (can_reach g (suc n) s (place to)) can in
    let (c, has, (u, leads, more)) = first_letter (carry g) (first_symbols (length g.edges)) (λ v. place v == place to) n s reach in
    let (starts, same) = if_some (start_of g.edges c == s.at) (carried g s c) u leads in
    let after : can_reach g n (carried g s c) (place to) ≡ true = ap (λ v. can_reach g n v (place to)) same ∙ more in
    let (x, is, live) = picked_some w (keeps_walk g s to n) (symbols_of g.edges s.at) word (some_symbol g s to n c has starts (and_from (to.start == s.start) (can_reach g n (carried g s c) (place to)) start after)) in
    (x, is, picked_carries g s (keeps_walk g s to n) w x is, live)

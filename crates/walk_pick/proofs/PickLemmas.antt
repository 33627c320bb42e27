-- Whether there is a pick, and picks of symbols by their numbers.
use Rattle.std.proofs.Common.{◌≡◌, ◌↔◌, ℕ, zero, suc, ◌+◌, ◌-◌, ◌*◌, ◌/◌, ◌%◌, ◌^◌, ◌<◌, ◌≤◌, ◌==◌, nat_lt, Bool, true, false, not, ◌&&◌, ◌||◌, Option, Some, None, List, [], ◌∷◌, length, filter, slice_index_or, refl, sym, ap, subst, ◌∙◌, inl, inr, arith, rules}
use Rattle.std.specs.List.{list_any, range_with_len, All}
use Rattle.std.proofs.lemmas.Option.{slice_get_cases}
use Rattle.seeded_draw.specs.Draw.{pick_of}
use Rattle.std.specs.Option.{IsNone, IfSome, is_some, option_map}
use Rattle.std.proofs.lemmas.Bool.{cases_Bool, true≢false, lt-ltb, le-ltb, ltb-true, eqb-true, eq-eqb, and_parts, and_from}
use Rattle.std.proofs.lemmas.List.Sums.{length-filter, count_by-le-length}
use Rattle.std.proofs.lemmas.List.FromFn.{length-range_with_len}
use Rattle.sel_algebra.specs.declared.vocabulary.Symbol.{Symbol}
use Rattle.std.proofs.lemmas.List.{get_or-map}
use Rattle.schema_graph.specs.Edge.{end_of}
use Rattle.schema_graph.specs.Schema.{SchemaValue, IsSchema}
use Rattle.schema_graph.proofs.SymbolLemmas.{symbols_of-edge}
use Rattle.schema_graph.specs.Symbols.{symbols_of}
use Rattle.candidates.specs.Picked.{picked, numbers_that}
use Rattle.candidates.proofs.PickLemmas.{none_passes, filter_none, picked_at, picked_is_none, picked_numbered, at_slice_get}
use Rattle.bit_rows.specs.Sets.{NumberSet, has, numbers_from}
use Rattle.bit_rows.proofs.SetLemmas.{numbers-all, some_number}
use Rattle.sel_graph.specs.declared.states.State.{State}
use Rattle.sel_graph.specs.declared.states.Move.{Move}
use Rattle.sel_graph.specs.Numbers.{op_at, move_of, moves_of}
use Rattle.sel_graph.specs.Moves.{ReachValue}
use Rattle.sel_graph.specs.States.{place, came_to, carried, next_places}
use Rattle.sel_graph.specs.Tests.{leads_at, comes_from, is_plain, is_move}
use Rattle.sel_graph.proofs.PlaceLemmas.{place-below, place-parts, same_state}
use Rattle.sel_graph.proofs.WalkLemmas.{end_of-below, comes_walk}
use Rattle.sel_graph.proofs.MoveLemmas.{moves_of-numbered}
use Rattle.sel_graph.proofs.RowLemmas.{same_truth}
use Rattle.walk_pick.specs.LiveRows.{live_step}
use Rattle.walk_pick.specs.Candidates.{keeps_walk, nth_symbol, symbol_candidates}

-- there is a pick just where some candidate passes
pub some_is_any : {X Y : Type 0} (p : X → Bool) (xs : List X) (o : Option Y) → IsNone o ↔ (filter p xs ≡ []) → is_some o ≡ list_any p xs
some_is_any p xs None none = sym (none_passes p xs (none.0 refl))
some_is_any p xs (Some y) none = elim (cases_Bool (list_any p xs)) [
  | inl any ↦ sym any
  | inr miss ↦ absurd (true≢false (none.1 (filter_none p xs miss)))
]

-- a pick of a symbol, by its number among those that start where the state has come
pub picked_symbol : (g : SchemaValue) (s to : State) (n w : ℕ) (o : Option ℕ)
    → o ≡ picked w (numbers_that (λ i. keeps_walk g s to n (nth_symbol g s.at i)) (length (symbols_of g.edges s.at)))
    → picked w (symbol_candidates g s to n) ≡ option_map (nth_symbol g s.at) o
picked_symbol g s to n w o is =
    picked_at w (keeps_walk g s to n) (symbols_of g.edges s.at) (record { edge = 0; back = false }) ∙ ap (option_map (nth_symbol g s.at)) (sym is)

-- whether a symbol keeps a walk is told by the places before the walk's end, where the starts are the same
pub kept_walk : (g : SchemaValue) (s to : State) (n : ℕ) (c : Symbol) → to.start ≡ s.start → comes_from g n (came_to s.start to.at to.op) (place (carried g s c)) ≡ keeps_walk g s to n c
kept_walk g s to n c start =
    let end : came_to s.start to.at to.op ≡ to = same_state (came_to s.start to.at to.op) to (sym start) refl refl in
    ap (λ x. comes_from g n x (place (carried g s c))) end ∙ comes_walk g n (carried g s c) to start

-- the place after a symbol, by its number
pub next_symbol : (g : SchemaValue) (s : State) (i d : ℕ) → i < length (symbols_of g.edges s.at) → slice_index_or (next_places g s) i d ≡ place (carried g s (nth_symbol g s.at i))
next_symbol g s i d inside = get_or-map (λ c. place (carried g s c)) (symbols_of g.edges s.at) i (record { edge = 0; back = false }) d inside

-- is the place of a type of the schema
pub next_inside : (g : SchemaValue) → IsSchema g → (s : State) (i : ℕ) → i < length (symbols_of g.edges s.at) → place (carried g s (nth_symbol g s.at i)) < 5 * length g.kinds
next_inside g is s i inside =
    let c = nth_symbol g s.at i in
    place-below (length g.kinds) (end_of g.edges c) (carried g s c).op (end_of-below g is c (symbols_of-edge g.edges s.at i _ inside))

-- what a word picks is none just where there is none
pub none_is_none : {X : Type 0} (w : ℕ) (xs : List X) (o : Option X) → w < 2 ^ 64 → o ≡ picked w xs → IsNone o ↔ (xs ≡ [])
none_is_none w xs o word is = subst (λ p. IsNone p ↔ (xs ≡ [])) (sym is) (picked_is_none w xs word)

-- where no number from a on passes, none does
filter_past : (f : ℕ → Bool) (a m : ℕ) → ((i : ℕ) → a ≤ i → f i ≡ false) → filter f (range_with_len a m) ≡ []
filter_past f a zero past = refl
filter_past f a (suc m) past = rw (past a (omega arith)) (filter_past f (a + 1) m (λ i from. past i (omega (arith, from))))

-- where one test is another up to a bound and false past it, the numbers that pass are those below the bound that pass the other
filter_bounded : (f g : ℕ → Bool) (a n m : ℕ) → ((i : ℕ) → i < a + n → f i ≡ g i) → ((i : ℕ) → a + n ≤ i → f i ≡ false) → filter f (range_with_len a (n + m)) ≡ filter g (range_with_len a n)
filter_bounded f g a zero m same past = let none : 0 + m ≡ m = omega arith in rw none (filter_past f a m (λ i from. past i (omega (arith, from))))
filter_bounded f g a (suc n) m same past =
    let more : suc n + m ≡ suc (n + m) = omega arith in
    let rest = filter_bounded f g (a + 1) n m (λ i below. same i (omega (arith, below))) (λ i from. past i (omega (arith, from))) in
    rw more (elim (cases_Bool (g a)) [
      | inl hit ↦ rw (same a (omega arith) ∙ hit, hit) (ap (◌∷◌ a) rest)
      | inr miss ↦ rw (same a (omega arith) ∙ miss, miss) rest
    ])

-- the numbers of a row of moves are those of the moves that pass, in their order
pub picked_live_row : (w : ℕ) (test : Move → Bool) (k : ℕ) (star : Bool) (live : NumberSet) → 5 * k ≤ 320 → ((p : ℕ) → has live p ≡ (nat_lt p (5 * k) && test (move_of star p)))
    → picked w (filter test (moves_of k star)) ≡ option_map (move_of star) (picked w (numbers_from live 0 320))
picked_live_row w test k star live few is =
    ap (λ ms. picked w (filter test ms)) (moves_of-numbered k star) ∙ (picked_numbered w test (move_of star) (5 * k) ∙ ap (λ xs. option_map (move_of star) (picked w xs)) (sym numbers))
  where
    numbers : numbers_from live 0 320 ≡ numbers_that (λ i. test (move_of star i)) (5 * k)
    numbers =
        let all : 320 ≡ 5 * k + (320 - 5 * k) = omega (arith, few) in
        numbers-all live 320 ∙ (ap (λ m. filter (has live) (range_with_len 0 m)) all
        ∙ filter_bounded (has live) (λ i. test (move_of star i)) 0 (5 * k) (320 - 5 * k)
        (λ i below. is i ∙ ap (λ b. b && test (move_of star i)) (lt-ltb i (5 * k) (omega (arith, below))))
        (λ i past. is i ∙ ap (λ b. b && test (move_of star i)) (le-ltb i (5 * k) (omega (arith, past)))))

-- the row of the places whose moves pass
pub live_tested : (test : Move → Bool) (k : ℕ) (star : Bool) (row : NumberSet) (p : ℕ) → 5 * k ≤ 320 → ((q : ℕ) → has row q ≡ true → q < 5 * k) → ((s : Bool) (q : ℕ) → test (move_of s q) ≡ true → has row q ≡ true)
    → list_any (live_step test star p) (numbers_from row 0 320) ≡ (nat_lt p (5 * k) && test (move_of star p))
live_tested test k star row p few within all =
    let some = some_number row 320 (live_step test star p) in
    same_truth (list_any (live_step test star p) (numbers_from row 0 320)) (nat_lt p (5 * k) && test (move_of star p)) (
      λ any. let (n, below, here, both) = some.0 any in
          let (passes, is) = and_parts (test (move_of star n)) (n == p) both in
          let same : n ≡ p = eqb-true n p is in
          and_from (nat_lt p (5 * k)) (test (move_of star p)) (lt-ltb p (5 * k) (rw same at (within n here))) (ap (λ x. test (move_of star x)) (sym same) ∙ passes),
      λ both. let (below, passes) = and_parts (nat_lt p (5 * k)) (test (move_of star p)) both in
          some.1 (p, omega (arith, ltb-true p (5 * k) below, few), all star p passes, and_from (test (move_of star p)) (p == p) passes (eq-eqb p p refl)),
    )

-- the place of each move from a type is one of those of its plain moves
pub move_leads : (r : ReachValue) (t : ℕ) (star : Bool) (p : ℕ) → is_move r t (move_of star p) ≡ true → leads_at r t p ≡ true
move_leads r t star p move =
    let plain = and_parts (is_plain r t (p / 5) (op_at (p % 5))) (not star || (r.stars && (p / 5 == t))) move in
    ap (leads_at r t) (sym (place-parts p)) ∙ plain.0

-- there are no more numbers from n up to m in a set than there are
pub numbers_few : (s : NumberSet) (n m : ℕ) → length (numbers_from s n m) ≤ m - n
unfolding numbers_from
numbers_few s n m =
    let all = range_with_len n (m - n) in
    omega (arith, length-filter (has s) all, count_by-le-length (has s) all, length-range_with_len n (m - n))

-- what a word picks of a list has what each item has
pub picked_holds : (P : ℕ → Type 0) (w : ℕ) (xs : List ℕ) → All P xs → IfSome (picked w xs) P
picked_holds P w xs all = elim (slice_get_cases xs (pick_of w (length xs))).1 [
  | inl (x, within, is, same) ↦ rw is (at_slice_get P xs (pick_of w (length xs)) x all is)
  | inr (past, none) ↦ rw none (search rules)
]

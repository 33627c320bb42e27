-- What letters do with states, they do with places.
use Rattle.std.proofs.Common.{◌≡◌, ◌↔◌, ℕ, zero, suc, ◌+◌, ◌*◌, ◌/◌, ◌%◌, ◌<◌, ◌≤◌, ◌==◌, Bool, true, false, not, ◌&&◌, ◌||◌, List, [], ◌∷◌, length, inl, inr, refl, sym, ap, subst, ◌∙◌, ◌⊎◌, add-one, arith}
use Rattle.std.specs.List.{list_any, range_with_len}
use Rattle.std.proofs.lemmas.Bool.{eqb-true, eq-eqb, and_parts, and_from, cases_Bool, or_cases, or_left, or_right, true≢false}
use Rattle.std.specs.FinSet as set
use Rattle.std.proofs.Math.Bool.{or_assoc, or-false}
use Rattle.std.proofs.lemmas.List.Folds.{Any-from_list_any, list_any-from_Any, list_any-append}
use Rattle.bit_rows.specs.Sets.{NumberSet, has, numbers_from}
use Rattle.bit_rows.proofs.SetLemmas.{has-insert, any-range, some_number}
use Rattle.schema_graph.proofs.SymbolLemmas.{first_symbols-suc}
use Rattle.sel_algebra.specs.declared.vocabulary.Kind.{Kind}
use Rattle.sel_algebra.specs.declared.vocabulary.Op.{Op}
use Rattle.sel_algebra.specs.declared.vocabulary.Symbol.{Symbol}
use Rattle.sel_algebra.specs.Operators.{typed_composition}
use Rattle.sel_algebra.specs.Table.{kind_at}
use Rattle.schema_graph.specs.Edge.{start_of, end_of, op_of}
use Rattle.schema_graph.specs.Schema.{SchemaValue, IsSchema}
use Rattle.schema_graph.specs.Symbols.{both_ways, first_symbols}
use Rattle.sel_graph.specs.declared.states.State.{State}
use Rattle.sel_graph.specs.declared.states.Move.{Move}
use Rattle.sel_graph.specs.Runs.{Runs, HasRun}
use Rattle.sel_graph.specs.States.{op_number, place_of, place, carried}
use Rattle.sel_graph.specs.Walks.{CarriesBySymbol}
use Rattle.sel_graph.specs.Numbers.{op_at, move_of}
use Rattle.sel_graph.specs.Moves.{ReachValue, IsReach, IsMove, effect, moved, CarriesByMove}
use Rattle.sel_graph.specs.Rows.{Leads}
use Rattle.sel_graph.specs.Steps.{symbol_place, symbol_steps, SymbolStep, move_place, MoveStep, PlainStep, StarStep, star_step, star_steps, plain_steps}
use Rattle.sel_graph.specs.Tests.{leads_at, is_plain, is_move}
use Rattle.sel_graph.proofs.PlaceLemmas.{op_number-below, op_at-number, place-at, place-op_at, place-below, place-parts}
use Rattle.sel_graph.proofs.SymbolLemmas.{first_symbols-edge, first_symbols-contain}
use Rattle.sel_graph.proofs.WalkLemmas.{start_of-below, end_of-below}
use Rattle.sel_graph.proofs.MoveLemmas.{plain_agrees, move_agrees, move_inside, move_of-place, star_case, same_move}

-- ---- letters that carry states as steps carry their places

pub record Simulates {A C : Type 0} (Carries : A → C → A → Type 0) (In : A → Type 0) (number : A → ℕ) (Steps : ℕ → ℕ → Type 0) : Type 0 where
  pub forth : (s : A) (c : C) (u : A) → In s → Carries s c u → In u × Steps (number s) (number u)
  pub back : (s : A) (m : ℕ) → In s → Steps (number s) m → (c : C) × (u : A) × Carries s c u × (number u ≡ m) × In u

leads_from_run : {A C : Type 0} {Carries : A → C → A → Type 0} {In : A → Type 0} {number : A → ℕ} {Steps : ℕ → ℕ → Type 0} → Simulates Carries In number Steps
    → (word : List C) (s t : A) → In s → Runs Carries word s t → Leads Steps (length word) (number s) (number t)
leads_from_run {number = number} d [] s t in_s same = ap number same
leads_from_run {number = number} d (c ∷ word) s t in_s (u, carries, runs) = let (in_u, step) = d.forth s c u in_s carries in (number u, step, leads_from_run d word u t in_u runs)

run_from_leads : {A C : Type 0} {Carries : A → C → A → Type 0} {In : A → Type 0} {number : A → ℕ} {Steps : ℕ → ℕ → Type 0} → Simulates Carries In number Steps
    → (n : ℕ) (s : A) (q : ℕ) → In s → Leads Steps n (number s) q → HasRun Carries n (λ u. number u ≡ q) s
run_from_leads d zero s q in_s same = record { word = []; long = refl; end = s; runs = refl; meets = same }
run_from_leads {Steps = Steps} d (suc n) s q in_s (m, step, rest) =
    let (c, u, carries, same, in_u) = d.back s m in_s step in
    let run = run_from_leads d n u q in_u (subst (λ x. Leads Steps n x q) (sym same) rest) in
    record { word = c ∷ run.word; long = ap suc run.long; end = run.end; runs = (u, carries, run.runs); meets = run.meets }

-- so many steps lead to a place just where so many letters carry a state to one of that place
pub run_leads : {A C : Type 0} {Carries : A → C → A → Type 0} {In : A → Type 0} {number : A → ℕ} {Steps : ℕ → ℕ → Type 0} → Simulates Carries In number Steps
    → (n : ℕ) (s : A) (q : ℕ) → In s → Leads Steps n (number s) q ↔ HasRun Carries n (λ u. number u ≡ q) s
run_leads {number = number} {Steps = Steps} d n s q in_s = (
  run_from_leads d n s q in_s,
  λ run. subst (λ x. Leads Steps n (number s) x) run.meets (subst (λ x. Leads Steps x (number s) (number run.end)) run.long (leads_from_run d run.word s run.end in_s run.runs)),
)

-- ---- symbols

-- a state between types whose start is of a kind
abbrev pub IsOfKind : SchemaValue → Kind → State → Type 0
IsOfKind g kind s = (s.at < length g.kinds) × (kind_at g.kinds s.start ≡ kind)

-- the place after a symbol is that of the state after it
pub symbol_lands : (g : SchemaValue) (kind : Kind) (s : State) (c : Symbol) → kind_at g.kinds s.start ≡ kind → place (carried g s c) ≡ symbol_place g kind (place s) c
symbol_lands g kind s c same = λ i. place_of (end_of g.edges c) (typed_composition (sym (place-op_at s) i) (op_of g.edges c) (same i) (kind_at g.kinds (end_of g.edges c)))

-- a state whose start is of a kind
abbrev pub StartsOfKind : SchemaValue → Kind → State → Type 0
StartsOfKind g kind s = kind_at g.kinds s.start ≡ kind

pub symbols_simulate : (g : SchemaValue) (kind : Kind) → Simulates (CarriesBySymbol g) (StartsOfKind g kind) place (SymbolStep g kind)
symbols_simulate g kind = record {
  forth = λ s c u in_s carries. (
    ap (λ x. kind_at g.kinds x.start) (sym carries.2) ∙ in_s,
    (c, carries.0, carries.1 ∙ sym (place-at s), sym (symbol_lands g kind s c in_s) ∙ ap place carries.2),
  );
  back = λ s m in_s (c, known, starts, lands). (c, carried g s c, (known, starts ∙ place-at s, refl), symbol_lands g kind s c in_s ∙ lands, in_s);
}

-- symbols carry places to places
pub symbol_stays : (g : SchemaValue) → IsSchema g → (kind : Kind) (p q : ℕ) → SymbolStep g kind p q → q < 5 * length g.kinds
symbol_stays g is kind p q (c, known, starts, lands) = rw (← lands) (place-below (length g.kinds) (end_of g.edges c) _ (end_of-below g is c known))

-- and start at types of the schema
pub symbol_starts : (g : SchemaValue) → IsSchema g → (kind : Kind) (p q : ℕ) → SymbolStep g kind p q → p < 5 * length g.kinds
symbol_starts g is kind p q (c, known, starts, lands) = omega (arith, start_of-below g is c known, starts)

-- the test on all symbols is true just where one of them carries a place to a place
pub symbol_tested : (g : SchemaValue) (kind : Kind) (p q : ℕ) → (list_any (symbol_steps g kind p q) (first_symbols (length g.edges)) ≡ true) ↔ SymbolStep g kind p q
symbol_tested g kind p q = (
  λ any. let (i, c, inside, here, passed) = Any-from_list_any (symbol_steps g kind p q) (first_symbols (length g.edges)) any in
      let (starts, lands) = and_parts (start_of g.edges c == p / 5) (symbol_place g kind p c == q) passed in
      (c, first_symbols-edge (length g.edges) c (i, inside, here), eqb-true (start_of g.edges c) (p / 5) starts, eqb-true (symbol_place g kind p c) q lands),
  λ (c, known, starts, lands). let (i, inside, here) = first_symbols-contain (length g.edges) c known in
      list_any-from_Any (symbol_steps g kind p q) (first_symbols (length g.edges))
      (i, c, inside, here, and_from (start_of g.edges c == p / 5) (symbol_place g kind p c == q) (eq-eqb (start_of g.edges c) (p / 5) starts) (eq-eqb (symbol_place g kind p c) q lands)),
)

-- a row to which the place after a symbol is added, where the symbol starts at the type of the place
pub symbol_added : (g : SchemaValue) (kind : Kind) (p : ℕ) (c : Symbol) (s : NumberSet) (q : ℕ) → start_of g.edges c ≡ p / 5
    → has (set.insert s (symbol_place g kind p c)) q ≡ (has s q || symbol_steps g kind p q c)
symbol_added g kind p c s q starts =
    has-insert s (symbol_place g kind p c) q ∙ ap (λ b. has s q || (b && (symbol_place g kind p c == q))) (sym (eq-eqb (start_of g.edges c) (p / 5) starts))

-- the symbols of one edge more
pub one_edge_more : (test : Symbol → Bool) (n : ℕ) (a b c : Bool) → a ≡ list_any test (first_symbols n) → b ≡ (a || test (record { edge = n; back = false })) → c ≡ (b || test (record { edge = n; back = true }))
    → c ≡ list_any test (first_symbols (n + 1))
one_edge_more test n a b c before along against =
    let x = test (record { edge = n; back = false }) in
    let y = test (record { edge = n; back = true }) in
    let all = list_any test (first_symbols n) in
    against ∙ (ap (λ z. z || y) (along ∙ ap (λ z. z || x) before) ∙ (or_assoc all x y ∙ (ap (λ z. all || (x || z)) (sym (or-false y))
    ∙ sym (ap (λ k. list_any test (first_symbols k)) (add-one n) ∙ (ap (list_any test) (first_symbols-suc n) ∙ list_any-append test (first_symbols n) (both_ways n))))))

-- ---- moves

-- the place after a move is that of the state after it
move_lands : (g : SchemaValue) (kind : Kind) (s : State) (m : Move) → kind_at g.kinds s.start ≡ kind → place (moved g s m) ≡ move_place g kind (place s) m
move_lands g kind s m same = λ i. place_of m.to (typed_composition (sym (place-op_at s) i) (effect m) (same i) (kind_at g.kinds m.to))

pub moves_simulate : (r : ReachValue) → IsReach r → (kind : Kind) → Simulates (CarriesByMove r) (IsOfKind r.schema kind) place (MoveStep r kind)
moves_simulate r is kind = record {
  forth = λ s m u in_s carries. (
    (rw (ap (λ x. x.at) (sym carries.1)) (move_inside r is s.at m carries.0), ap (λ x. kind_at r.schema.kinds x.start) (sym carries.1) ∙ in_s.1),
    (m, rw (place-at s) ((move_agrees r s.at m).1 carries.0), move_inside r is s.at m carries.0, sym (move_lands r.schema kind s m in_s.1) ∙ ap place carries.1),
  );
  back = λ s p in_s (m, test, inside, lands).
      (m, moved r.schema s m, ((move_agrees r s.at m).0 (rw (place-at s) at test), refl), move_lands r.schema kind s m in_s.1 ∙ lands, (inside, in_s.1));
}

-- moves carry places to places
pub move_stays : (r : ReachValue) (kind : Kind) (p q : ℕ) → MoveStep r kind p q → q < 5 * length r.schema.kinds
move_stays r kind p q (m, test, inside, lands) = rw (← lands) (place-below (length r.schema.kinds) m.to _ inside)

-- a place to which words of permitted lengths lead is at a type of the schema
pub leads_inside : (r : ReachValue) → IsReach r → (t p : ℕ) → leads_at r t p ≡ true → p < 5 * length r.schema.kinds
leads_inside r is t p leads =
    let plain : is_plain r t (p / 5) (op_at (p % 5)) ≡ true = rw (place-parts p) leads in
    let move : IsMove r t (record { star = false; to = p / 5; value = op_at (p % 5) }) = record { plain = (plain_agrees r t (p / 5) (op_at (p % 5))).0 plain; starred = λ never. absurd (true≢false (sym never)) } in
    omega (arith, move_inside r is t (record { star = false; to = p / 5; value = op_at (p % 5) }) move)

-- the place of a plain move is one to which words lead
plain_test : (r : ReachValue) (t n : ℕ) → leads_at r t n ≡ true → is_move r t (move_of false n) ≡ true
plain_test r t n leads = and_from (leads_at r t (place_of (n / 5) (op_at (n % 5)))) true (rw (place-parts n) leads) refl

-- a move is a plain one, or a plain one from its type to itself that is starred
pub step_kinds : (r : ReachValue) → IsReach r → (kind : Kind) (p q : ℕ) → MoveStep r kind p q ↔ (PlainStep r kind p q ⊎ ((r.stars ≡ true) × StarStep r kind p q))
step_kinds r is kind p q = (
  λ (m, test, inside, lands). of_kind m test lands,
  λ either. elim either [
    | inl plain ↦ let (n, leads, lands) = plain in (move_of false n, plain_test r (p / 5) n leads, omega (arith, leads_inside r is (p / 5) n leads), lands)
    | inr starred ↦ let (stars, (v, plain, lands)) = starred in
        let m = starred_move v in (
          m,
          and_from (is_plain r (p / 5) (p / 5) v) (r.stars && (p / 5 == p / 5)) plain (and_from r.stars (p / 5 == p / 5) stars (eq-eqb (p / 5) (p / 5) refl)),
          move_inside r is (p / 5) m (record { plain = (plain_agrees r (p / 5) (p / 5) v).0 plain; starred = λ yes. (stars, refl) }),
          lands,
        )
  ],
)
  where
    starred_move : Op → Move
    starred_move v = record { star = true; to = p / 5; value = v }

    of_kind : (m : Move) → is_move r (p / 5) m ≡ true → move_place r.schema kind p m ≡ q → PlainStep r kind p q ⊎ ((r.stars ≡ true) × StarStep r kind p q)
    of_kind m test lands =
        let (plain, star) = and_parts (is_plain r (p / 5) m.to m.value) (not m.star || (r.stars && (m.to == p / 5))) test in
        elim (cases_Bool m.star) [
          | inl hit ↦
              let (stars, here) = and_parts r.stars (m.to == p / 5) (star_case m.star (r.stars && (m.to == p / 5)) star hit) in
              let to : m.to ≡ p / 5 = eqb-true m.to (p / 5) here in
              let same : m ≡ starred_move m.value = same_move m (starred_move m.value) hit to refl in
              inr (stars, (m.value, subst (λ u. is_plain r (p / 5) u m.value ≡ true) to plain, subst (λ x. move_place r.schema kind p x ≡ q) same lands))
          | inr miss ↦
              let same : m ≡ move_of false (place_of m.to m.value) = sym ((λ i. move_of (sym miss i) (place_of m.to m.value)) ∙ move_of-place m) in
              inl (place_of m.to m.value, plain, subst (λ x. move_place r.schema kind p x ≡ q) same lands)
        ]

-- a row to which the place after a starred move is added
pub star_added : (r : ReachValue) (kind : Kind) (p : ℕ) (v : Op) (s : NumberSet) (q : ℕ) → is_plain r (p / 5) (p / 5) v ≡ true
    → has (set.insert s (move_place r.schema kind p (record { star = true; to = p / 5; value = v }))) q ≡ (has s q || star_step r kind p q v)
star_added r kind p v s q plain =
    let to = move_place r.schema kind p (record { star = true; to = p / 5; value = v }) in
    has-insert s to q ∙ ap (λ b. has s q || (b && (to == q))) (sym plain)

-- some number's starred move carries a place just where some value's does
pub stars_tested : (r : ReachValue) (kind : Kind) (p q : ℕ) → (list_any (star_steps r kind p q) (range_with_len 0 5) ≡ true) ↔ StarStep r kind p q
stars_tested r kind p q = (
  λ any. let (n, below, passed) = (any-range (star_steps r kind p q) 5).0 any in
      let (plain, lands) = and_parts (is_plain r (p / 5) (p / 5) (op_at n)) (move_place r.schema kind p (record { star = true; to = p / 5; value = op_at n }) == q) passed in
      (op_at n, plain, eqb-true (move_place r.schema kind p (record { star = true; to = p / 5; value = op_at n })) q lands),
  λ (v, plain, lands).
      let passed : star_step r kind p q v ≡ true =
      and_from (is_plain r (p / 5) (p / 5) v) (move_place r.schema kind p (record { star = true; to = p / 5; value = v }) == q) plain
      (eq-eqb (move_place r.schema kind p (record { star = true; to = p / 5; value = v })) q lands) in
      (any-range (star_steps r kind p q) 5).1 (op_number v, op_number-below v, ap (star_step r kind p q) (op_at-number v) ∙ passed),
)

-- a row of the plain moves
pub plain_tested : (r : ReachValue) → IsReach r → (kind : Kind) (p q : ℕ) (row : NumberSet) → ((n : ℕ) → has row n ≡ leads_at r (p / 5) n) → 5 * length r.schema.kinds ≤ 320
    → (list_any (plain_steps r kind p q) (numbers_from row 0 320) ≡ true) ↔ PlainStep r kind p q
plain_tested r is kind p q row places few =
    let some = some_number row 320 (plain_steps r kind p q) in (
      λ any. let (n, below, here, passed) = some.0 any in (n, sym (places n) ∙ here, eqb-true (move_place r.schema kind p (move_of false n)) q passed),
      λ (n, leads, lands). some.1 (n, omega (arith, leads_inside r is (p / 5) n leads, few), places n ∙ leads, eq-eqb (move_place r.schema kind p (move_of false n)) q lands),
    )

-- all moves: plain ones, and where moves may be starred, starred ones
pub steps_tested : (r : ReachValue) → IsReach r → (kind : Kind) (p q : ℕ) (plain stars : Bool) → (plain ≡ true) ↔ PlainStep r kind p q → stars ≡ list_any (star_steps r kind p q) (range_with_len 0 5)
    → ((plain || (r.stars && stars)) ≡ true) ↔ MoveStep r kind p q
steps_tested r is kind p q plain stars plains starred =
    let kinds = step_kinds r is kind p q in
    let tested = stars_tested r kind p q in (
      λ any. kinds.1 (elim (or_cases plain (r.stars && stars) any) [
        | inl left ↦ inl (plains.0 left)
        | inr right ↦ let (may, some) = and_parts r.stars stars right in inr (may, tested.0 (sym starred ∙ some))
      ]),
      λ step. elim (kinds.0 step) [
        | inl left ↦ or_left plain (r.stars && stars) (plains.1 left)
        | inr right ↦ let (may, some) = right in or_right plain (r.stars && stars) (and_from r.stars stars may (starred ∙ tested.1 some))
      ],
    )

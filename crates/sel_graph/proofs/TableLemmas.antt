-- The levels of rows of steps are the rows of states.
use Rattle.std.proofs.Common.{◌≡◌, ◌↔◌, ℕ, ◌+◌, ◌*◌, ◌<◌, Bool, true, List, length, map, slice_index_or, refl, sym, ap, subst, ◌∙◌, arith}
use Rattle.std.specs.List.{range_with_len}
use Rattle.std.proofs.lemmas.List.FromFn.{length-map-range_with_len, get_or-map-range_with_len}
use Rattle.sel_algebra.specs.declared.vocabulary.Kind.{Kind}
use Rattle.sel_algebra.specs.declared.vocabulary.Kind.TheVariants.{Fixed, Growing}
use Rattle.sel_algebra.specs.Table.{kind_at}
use Rattle.schema_graph.specs.Schema.{SchemaValue}
use Rattle.schema_graph.specs.Symbols.{symbols_of}
use Rattle.sel_graph.specs.declared.states.State.{State}
use Rattle.sel_graph.specs.declared.levels.KindLevels.{KindLevels}
use Rattle.sel_graph.specs.States.{place, next_places}
use Rattle.sel_graph.specs.Numbers.{state_at}
use Rattle.sel_graph.specs.Moves.{ReachValue, IsReach, symbols_most, moves_most}
use Rattle.sel_graph.specs.Rows.{Leads, Back, HasLevels}
use Rattle.sel_graph.specs.Steps.{next_from, SymbolStep, MoveStep}
use Rattle.sel_graph.specs.Tables.{levels_of, HasStateRows, HasWalks, HasBefores, HasAfters}
use Rattle.sel_graph.specs.Tests.{can_reach, comes_from, can_come}
use Rattle.sel_graph.proofs.PlaceLemmas.{place-below, place-at, place-parts}
use Rattle.sel_graph.proofs.WalkLemmas.{reach_run}
use Rattle.sel_graph.proofs.GoalLemmas.{come_run}
use Rattle.sel_graph.proofs.RowLemmas.{same_truth, Leads-back}
use Rattle.sel_graph.proofs.StepLemmas.{run_leads, symbol_lands, symbols_simulate, moves_simulate}

-- levels of steps that lead where so many letters do
rows_from_levels : (g : SchemaValue) (most : ℕ) (Steps : Kind → ℕ → ℕ → Type 0) (holds : ℕ → State → ℕ → Bool) (b : KindLevels)
    → ((kind : Kind) → HasLevels (most + 1) (5 * length g.kinds) (Steps kind) (levels_of b kind))
    → ((n : ℕ) (s : State) (p : ℕ) → s.at < length g.kinds → Leads (Steps (kind_at g.kinds s.start)) n (place s) p ↔ (holds n s p ≡ true)) → HasStateRows g most holds b
rows_from_levels g most Steps holds b levels agree = record {
  count = λ kind. (levels kind).long;
  long = λ kind n few. ((levels kind).each n (omega (arith, few))).long;
  marked = λ n s p few here.
      let row = ((levels (kind_at g.kinds s.start)).each n (omega (arith, few))).marked (place s) p (place-below (length g.kinds) s.at s.op here) in
      let same = agree n s p here in
      same_truth _ (holds n s p) (λ h. same.0 (row.0 h), λ h. row.1 (same.1 h));
}

-- one fact of each kind
by_kind : (P : Kind → Type 0) → P Fixed → P Growing → (kind : Kind) → P kind
by_kind P fixed growing Fixed = fixed
by_kind P fixed growing Growing = growing

-- so many symbols lead from a place just where the test says so
symbols_lead : (g : SchemaValue) (n : ℕ) (s : State) (p : ℕ) → Leads (SymbolStep g (kind_at g.kinds s.start)) n (place s) p ↔ (can_reach g n s p ≡ true)
symbols_lead g n s p =
    let leads = run_leads (symbols_simulate g (kind_at g.kinds s.start)) n s p refl in
    let test = reach_run g n s p in
    (λ h. test.1 (leads.0 h), λ h. leads.1 (test.0 h))

pub walks_from_levels : (g : SchemaValue) (b : KindLevels) → HasLevels (symbols_most + 1) (5 * length g.kinds) (SymbolStep g Fixed) b.fixed.items
    → HasLevels (symbols_most + 1) (5 * length g.kinds) (SymbolStep g Growing) b.growing.items → HasWalks g b
walks_from_levels g b fixed growing =
    rows_from_levels g symbols_most (SymbolStep g) (can_reach g) b (by_kind (λ kind. HasLevels (symbols_most + 1) (5 * length g.kinds) (SymbolStep g kind) (levels_of b kind)) fixed growing)
    (λ n s p here. symbols_lead g n s p)

-- and to a place from another, where as many lead the other way
symbols_come : (g : SchemaValue) (n : ℕ) (t : State) (p : ℕ) → Leads (Back (SymbolStep g (kind_at g.kinds t.start))) n (place t) p ↔ (comes_from g n t p ≡ true)
symbols_come g n t p =
    let from = state_at t.start p in
    let lead = subst (λ x. Leads (SymbolStep g (kind_at g.kinds t.start)) n x (place t) ↔ (comes_from g n t p ≡ true)) (place-parts p) (symbols_lead g n from (place t)) in
    let back = Leads-back (SymbolStep g (kind_at g.kinds t.start)) n p (place t) in
    (λ h. lead.0 (back.0 h), λ h. back.1 (lead.1 h))

pub befores_from_levels : (g : SchemaValue) (b : KindLevels) → HasLevels (symbols_most + 1) (5 * length g.kinds) (Back (SymbolStep g Fixed)) b.fixed.items
    → HasLevels (symbols_most + 1) (5 * length g.kinds) (Back (SymbolStep g Growing)) b.growing.items → HasBefores g b
befores_from_levels g b fixed growing =
    rows_from_levels g symbols_most (λ kind. Back (SymbolStep g kind)) (comes_from g) b (by_kind (λ kind. HasLevels (symbols_most + 1) (5 * length g.kinds) (Back (SymbolStep g kind)) (levels_of b kind)) fixed growing)
    (λ n t p here. symbols_come g n t p)

pub afters_from_levels : (r : ReachValue) → IsReach r → (b : KindLevels) → HasLevels (moves_most + 1) (5 * length r.schema.kinds) (MoveStep r Fixed) b.fixed.items
    → HasLevels (moves_most + 1) (5 * length r.schema.kinds) (MoveStep r Growing) b.growing.items → HasAfters r b
afters_from_levels r is b fixed growing =
    rows_from_levels r.schema moves_most (MoveStep r) (can_come r) b (by_kind (λ kind. HasLevels (moves_most + 1) (5 * length r.schema.kinds) (MoveStep r kind) (levels_of b kind)) fixed growing)
    (λ n s p here.
    let leads = run_leads (moves_simulate r is (kind_at r.schema.kinds s.start)) n s p (here, refl) in
    let test = come_run r is n s p in
    (λ h. test.1 (leads.0 h), λ h. leads.1 (test.0 h)))

-- the places after each symbol from a state, by its place and the kind of its start
pub nexts_at : (g : SchemaValue) (kind : Kind) (nexts : List (List ℕ)) → nexts ≡ map (next_from g kind) (range_with_len 0 (5 * length g.kinds)) → (s : State) → s.at < length g.kinds
    → kind_at g.kinds s.start ≡ kind → (place s < length nexts) × ((d : List ℕ) → slice_index_or nexts (place s) d ≡ next_places g s)
nexts_at g kind nexts is s here same =
    let below = place-below (length g.kinds) s.at s.op here in
    let from : next_from g kind (place s) ≡ next_places g s = λ i. map (λ c. sym (symbol_lands g kind s c same) i) (symbols_of g.edges (place-at s i)) in (
      rw (is, length-map-range_with_len (next_from g kind) 0 (5 * length g.kinds)) below,
      λ d. ap (λ xs. slice_index_or xs (place s) d) is ∙ (get_or-map-range_with_len (next_from g kind) 0 (5 * length g.kinds) (place s) (place s) d below (omega arith) ∙ from),
    )

-- The test on walks decides whether there is one.
use Rattle.std.proofs.Common.{◌≡◌, ◌↔◌, ℕ, suc, ◌<◌, ◌==◌, Bool, true, false, ◌&&◌, if◌then◌else◌, Some, None, List, [], ◌∷◌, length, refl, sym, ap, ◌∙◌, arith}
use Rattle.std.proofs.lemmas.Bool.{eqb-true, eq-eqb, and_parts, and_from}
use Rattle.std.proofs.lemmas.Option.{same_Some, none-some}
use Rattle.std.proofs.lemmas.List.Elements.{All-get_or}
use Rattle.sel_algebra.specs.declared.vocabulary.Symbol.{Symbol}
use Rattle.schema_graph.specs.Edge.{start_of, end_of, edge_at, IsSchemaEdge}
use Rattle.schema_graph.specs.Schema.{SchemaValue, IsSchema}
use Rattle.schema_graph.specs.Symbols.{first_symbols}
use Rattle.schema_graph.proofs.EdgeLemmas.{IsSchemaEdge-taken}
use Rattle.sel_graph.specs.Runs.{Runs, HasRun}
use Rattle.sel_graph.proofs.RunLemmas.{Decide, run_decided}
use Rattle.sel_graph.specs.declared.states.State.{State}
use Rattle.sel_graph.specs.States.{place, carried}
use Rattle.sel_graph.specs.Walks.{CarriesBySymbol, HasWalk}
use Rattle.sel_graph.specs.Tests.{carry, can_reach, comes_from, can_walk}
use Rattle.sel_graph.specs.Numbers.{state_at}
use Rattle.sel_graph.proofs.PlaceLemmas.{place-type, place-op, same_state, state_at-place}
use Rattle.sel_graph.proofs.SymbolLemmas.{first_symbols-contain, first_symbols-edge}

-- what a choice with nothing on the other side gives
pub if_some : {A : Type 0} (b : Bool) (x u : A) → (if b then Some x else None) ≡ Some u → (b ≡ true) × (x ≡ u)
if_some true x u is = (refl, same_Some x u is)
if_some false x u is = absurd (none-some u is)

carry_decides : (g : SchemaValue) (p : ℕ) → Decide (carry g) (first_symbols (length g.edges)) (λ u. place u == p) (CarriesBySymbol g) (λ u. place u ≡ p)
carry_decides g p = record {
  sound = λ s c u has leads.
      let (starts, same) = if_some (start_of g.edges c == s.at) (carried g s c) u leads in
      (first_symbols-edge (length g.edges) c has, eqb-true (start_of g.edges c) s.at starts, same);
  letter = λ s c u carries. first_symbols-contain (length g.edges) c carries.0;
  complete = λ s c u carries. rw (eq-eqb (start_of g.edges c) s.at carries.1) (ap Some carries.2);
  met = λ u same. eqb-true (place u) p same;
  passed = λ u same. eq-eqb (place u) p same;
}

-- the test on places is true just where some symbols lead to the place
pub reach_run : (g : SchemaValue) (n : ℕ) (s : State) (p : ℕ) → (can_reach g n s p ≡ true) ↔ HasRun (CarriesBySymbol g) n (λ u. place u ≡ p) s
reach_run g n s p = run_decided (carry_decides g p) n s

-- symbols keep the start
pub walk_start : (g : SchemaValue) (word : List Symbol) (s t : State) → Runs (CarriesBySymbol g) word s t → t.start ≡ s.start
walk_start g [] s t same = ap (λ x. x.start) (sym same)
walk_start g (c ∷ word) s t (u, carries, runs) = walk_start g word u t runs ∙ ap (λ x. x.start) (sym carries.2)

-- the end of a symbol is a type of the schema
pub end_of-below : (g : SchemaValue) → IsSchema g → (c : Symbol) → c.edge < length g.edges → end_of g.edges c < length g.kinds
end_of-below g is c known = (IsSchemaEdge-taken g.kinds c.back (edge_at g.edges c.edge) (All-get_or (IsSchemaEdge g.kinds) g.edges c.edge _ known is.each_edge)).target

-- and so is its start
pub start_of-below : (g : SchemaValue) → IsSchema g → (c : Symbol) → c.edge < length g.edges → start_of g.edges c < length g.kinds
start_of-below g is c known = (IsSchemaEdge-taken g.kinds c.back (edge_at g.edges c.edge) (All-get_or (IsSchemaEdge g.kinds) g.edges c.edge _ known is.each_edge)).source

-- symbols lead among the types of the schema
walk_stays : (g : SchemaValue) → IsSchema g → (word : List Symbol) (s t : State) → Runs (CarriesBySymbol g) word s t → s.at < length g.kinds → t.at < length g.kinds
walk_stays g is [] s t same inside = rw (ap (λ x. x.at) (sym same)) inside
walk_stays g is (c ∷ word) s t (u, carries, runs) inside = walk_stays g is word u t runs (rw (ap (λ x. x.at) (sym carries.2)) (end_of-below g is c carries.0))

-- a walk of some symbols ends at a type of the schema
pub walk_inside : (g : SchemaValue) → IsSchema g → (n : ℕ) (s t : State) → HasWalk g (suc n) s t → t.at < length g.kinds
walk_inside g is n s t walk = inside walk.word walk.long walk.runs
  where
    inside : (word : List Symbol) → length word ≡ suc n → Runs (CarriesBySymbol g) word s walk.end → t.at < length g.kinds
    inside [] long runs = absurd (omega (arith, long))
    inside (c ∷ word) long (u, carries, runs) = rw (ap (λ x. x.at) (sym walk.meets)) (walk_stays g is word u walk.end runs (rw (ap (λ x. x.at) (sym carries.2)) (end_of-below g is c carries.0)))

-- a state with the start and the place of t is t
pub come_to : (u t : State) → u.start ≡ t.start → place u ≡ place t → u ≡ t
come_to u t start same = same_state u t start (place-type u.at t.at u.op t.op same) (place-op u.at t.at u.op t.op same)

-- where the starts are the same, the test on places is true just where there is a walk
pub reach_agrees : (g : SchemaValue) (n : ℕ) (s t : State) → t.start ≡ s.start → (can_reach g n s (place t) ≡ true) ↔ HasWalk g n s t
reach_agrees g n s t start = (
  λ test. let run = (reach_run g n s (place t)).0 test in
      record { word = run.word; long = run.long; end = run.end; runs = run.runs; meets = come_to run.end t (walk_start g run.word s run.end run.runs ∙ sym start) run.meets },
  λ walk. (reach_run g n s (place t)).1 (record { word = walk.word; long = walk.long; end = walk.end; runs = walk.runs; meets = ap place walk.meets }),
)

-- the test on the places before is that on the places after
pub comes_is : (g : SchemaValue) (n : ℕ) (s t : State) → t.start ≡ s.start → comes_from g n t (place s) ≡ can_reach g n s (place t)
comes_is g n s t start = ap (λ x. can_reach g n x (place t)) (ap (λ x. state_at x (place s)) start ∙ state_at-place s)

pub comes_walk : (g : SchemaValue) (n : ℕ) (s t : State) → t.start ≡ s.start → comes_from g n t (place s) ≡ can_walk g n s t
comes_walk g n s t start = comes_is g n s t start ∙ ap (λ b. b && can_reach g n s (place t)) (sym (eq-eqb t.start s.start start))

pub comes_agrees : (g : SchemaValue) (n : ℕ) (s t : State) → s.start ≡ t.start → (comes_from g n t (place s) ≡ true) ↔ HasWalk g n s t
comes_agrees g n s t start =
    let is = comes_is g n s t (sym start) in
    let agree = reach_agrees g n s t (sym start) in
    (λ test. agree.0 (sym is ∙ test), λ walk. is ∙ agree.1 walk)

pub walk_agrees : (g : SchemaValue) (n : ℕ) (s t : State) → (can_walk g n s t ≡ true) ↔ HasWalk g n s t
walk_agrees g n s t = (
  λ test. let (start, reach) = and_parts (t.start == s.start) (can_reach g n s (place t)) test in (reach_agrees g n s t (eqb-true t.start s.start start)).0 reach,
  λ walk. let start : t.start ≡ s.start = ap (λ x. x.start) (sym walk.meets) ∙ walk_start g walk.word s walk.end walk.runs in
      and_from (t.start == s.start) (can_reach g n s (place t)) (eq-eqb t.start s.start start) ((reach_agrees g n s t start).1 walk),
)

-- The types of the nodes of a graph that keeps to the types of the constraints.
use Rattle.std.proofs.Common.{◌≡◌, inl, inr, ℕ, zero, suc, ◌+◌, ◌<◌, ◌≤◌, ◌==◌, ◌&&◌, nat_le, nat_lt, Bool, true, false, cond, List, [], ◌∷◌, length, take, get_or, sum, slice_index_or, sym, ap, subst, ◌∙◌, arith}
use Rattle.std.specs.List.{count_by, range_with_len}
use Rattle.std.specs.Option.{is_some, IsSome}
use Rattle.std.proofs.lemmas.Bool.{cases_lt, cases_Bool}
use Rattle.std.proofs.lemmas.Bool.Decides.{nat_tests}
use Rattle.std.proofs.lemmas.List.{length-map, get_or-map}
use Rattle.std.proofs.lemmas.List.Elements.{All-contains, All-weaker}
use Rattle.std.proofs.lemmas.List.Sums.{sum_by-cons}
use Rattle.sel_algebra.specs.declared.vocabulary.Symbol.{Symbol}
use Rattle.sel_algebra.specs.Table.{Table, entry}
use Rattle.graph_text.specs.declared.graphs.Triple.{Triple}
use Rattle.graph_text.specs.Graph.{IsNode}
use Rattle.gm_config.specs.Config.{ConfigValue, IsConfig, node_counts}
use Rattle.gm_config.proofs.ConfigLemmas.{three_true}
use Rattle.schema_graph.specs.Edge.{no_edge, edge_at, taken, start_of, end_of, op_of, label_of}
use Rattle.schema_graph.specs.Schema.{SchemaValue, IsSchema}
use Rattle.schema_graph.specs.Labelled.{all_taken, matrix_of}
use Rattle.schema_graph.specs.Configured.{kinds_of, kind_of, edge_of, edges_of, schema_of}
use Rattle.schema_graph.proofs.LabelledLemmas.{HasOperators-matrix_of}
use Rattle.schema_graph.proofs.ConfiguredLemmas.{IsSchema-schema_of}
use Rattle.edge_match.specs.declared.config_sides.Side.TheVariants.{Out, In}
use Rattle.edge_match.specs.ConfigSides.{no_constraint, constraint_at, label_at}
use Rattle.edge_match.specs.ConformingGraph.{is_node_at, is_triple_of, HasOneConstraint}
use Rattle.query_draw.specs.Wide.{symbol_matrix}
use Rattle.query_draw.proofs.WideLemmas.{symbol_edge}
use Rattle.path_pairs.specs.Trees.{Tree}
use Rattle.path_pairs.specs.Pairs.{Pairs}
use Rattle.constant_rows.specs.Nodes.{IsNodeOfType}
use Rattle.constant_rows.specs.Graphs.{HasConstraint, KeepsTypes}
use Rattle.constant_rows.specs.Laws.{ConformingGraphsKeepTypes}

-- ---- a node is one of one type alone

sum-take-le : (xs : List ℕ) (s t : ℕ) → s < t → sum (take s xs) + get_or xs s 0 ≤ sum (take t xs)
sum-take-le [] zero t lt = omega arith
sum-take-le [] (suc s) zero lt = absurd (omega (arith, lt))
sum-take-le [] (suc s) (suc t) lt = omega arith
sum-take-le (x ∷ xs) zero zero lt = absurd (omega (arith, lt))
sum-take-le (x ∷ xs) zero (suc t) lt = omega (arith, sum_by-cons (λ n. n) x (take t xs))
sum-take-le (x ∷ xs) (suc s) zero lt = absurd (omega (arith, lt))
sum-take-le (x ∷ xs) (suc s) (suc t) lt =
    omega (arith, sum_by-cons (λ n. n) x (take s xs), sum_by-cons (λ n. n) x (take t xs), sum-take-le xs s t (omega (arith, lt)))

not_below : (config : ConfigValue) (s t node : ℕ) → IsNodeOfType config s node → IsNodeOfType config t node → s < t → ⊥
not_below config s t node of_s of_t less = absurd (omega (arith, of_s.last, of_t.first, sum-take-le (node_counts config) s t less))

pub one_type : (config : ConfigValue) (s t node : ℕ) → IsNodeOfType config s node → IsNodeOfType config t node → s ≡ t
one_type config s t node of_s of_t = elim (cases_lt s t) [
  | inl less ↦ absurd (not_below config s t node of_s of_t less)
  | inr no_less ↦ elim (cases_lt t s) [
    | inl more ↦ absurd (not_below config t s node of_t of_s more)
    | inr no_more ↦ omega (arith, no_less, no_more)
  ]
]

-- a type of a node is one of the schema
pub known_kind : (config : ConfigValue) (t node : ℕ) → IsNodeOfType config t node → t < length (kinds_of config)
known_kind config t node of_t = rw (length-map config.types kind_of) of_t.known

-- ---- triples

-- by its end nodes and its label, a triple is one of constraint c
record JoinsTypes (config : ConfigValue) (c : ℕ) (triple : Triple) : Type 0 where
  source : IsNodeOfType config (constraint_at config c).source triple.src
  label : triple.label ≡ label_at config c
  target : IsNodeOfType config (constraint_at config c).target triple.trg

between : (first count v : ℕ) → nat_le first v && nat_lt v (first + count) ≡ true → (first ≤ v) × (v < first + count)
between first count v test = grind (arith, nat_tests)

same_number : (a b : ℕ) → (a == b) ≡ true → a ≡ b
same_number a b same = grind (arith, nat_tests)

triple-types : (config : ConfigValue) → IsConfig config → (c : ℕ) → c < length config.constraints → (triple : Triple) → is_triple_of config c triple ≡ true → JoinsTypes config c triple
triple-types config is c known triple of_c =
    let (out, label, in') = three_true (is_node_at config c Out triple.src) (triple.label == label_at config c) (is_node_at config c In triple.trg) of_c in
    let rules = is.each_constraint c no_constraint known in
    let source = between _ _ triple.src out in
    let target = between _ _ triple.trg in' in
    record {
      source = record { known = rules.source; first = source.0; last = source.1 };
      label = same_number triple.label (label_at config c) label;
      target = record { known = rules.target; first = target.0; last = target.1 };
    }

-- a configuration that keeps its rules, and a graph that keeps to the types of its constraints
pub record IsTyped (config : ConfigValue) (graph : List Triple) : Type 0 where
  pub rules : IsConfig config
  pub keeps : KeepsTypes config graph

-- ---- nodes

-- each node of the graph is one of a type
pub node-type : (config : ConfigValue) (graph : List Triple) → IsTyped config graph → (node : ℕ) → IsNode graph node → (t : ℕ) × IsNodeOfType config t node
node-type config graph typed node (triple, inside, ends) =
    let (c, known, of_c) = All-contains (HasConstraint config) graph triple typed.keeps inside in
    let joins = triple-types config typed.rules c known triple of_c in
    elim ends [
      | inl src ↦ ((constraint_at config c).source, subst (IsNodeOfType config (constraint_at config c).source) src joins.source)
      | inr trg ↦ ((constraint_at config c).target, subst (IsNodeOfType config (constraint_at config c).target) trg joins.target)
    ]

-- ---- the matrix of a label

-- it has an entry between the ends of a symbol's edge
symbol-some : (g : SchemaValue) → IsSchema g → (s : Symbol) → s.edge < length g.edges → IsSome (entry (symbol_matrix g s) (start_of g.edges s) (end_of g.edges s))
symbol-some g is s known =
    let e = edge_at g.edges s.edge in
    let edge = symbol_edge g is s known in
    let at : slice_index_or (all_taken g s.back) s.edge (taken s.back e) ≡ taken s.back e = get_or-map (taken s.back) g.edges s.edge no_edge (taken s.back e) known in
    let entries = (HasOperators-matrix_of g (label_of g.edges s) s.back is).entries (start_of g.edges s) (end_of g.edges s) edge.source edge.target (op_of g.edges s) in
    ap is_some (entries.1 (s.edge, rw (length-map g.edges (taken s.back)) known, at))

-- and so between the types of a constraint, as it is taken
constraint-some : (config : ConfigValue) → IsConfig config → (c : ℕ) → c < length config.constraints → (back : Bool)
    → let e = taken back (edge_of (kinds_of config) (constraint_at config c)) in IsSome (entry (matrix_of (schema_of config) e.label back) e.source e.target)
constraint-some config is c known back =
    let kinds = kinds_of config in
    let edges : c < length (edges_of config) = rw (length-map config.constraints (edge_of kinds)) known in
    subst (λ e. IsSome (entry (matrix_of (schema_of config) (taken back e).label back) (taken back e).source (taken back e).target))
    (get_or-map (edge_of kinds) config.constraints c no_constraint no_edge known)
    (symbol-some (schema_of config) (IsSchema-schema_of config is) (record { edge = c; back = back }) edges)

-- ---- relations that keep to the types

-- a matrix has an entry from a type to one of a node
abbrev pub Reaches : ConfigValue → Table → ℕ → ℕ → Type 0
Reaches config m s b = (t : ℕ) × IsNodeOfType config t b × IsSome (entry m s t)

-- from a node of a type, a relation leads only to nodes of types to which a matrix has an entry
abbrev pub Fits : ConfigValue → Table → (ℕ → ℕ → Type 0) → Type 0
Fits config m R = (s a b : ℕ) → IsNodeOfType config s a → R a b → Reaches config m s b

-- an entry from a type of the first node is one from its known type
reaches-from : (config : ConfigValue) (m : Table) (from to s a b : ℕ) → IsNodeOfType config from a → IsNodeOfType config to b → IsSome (entry m from to)
    → IsNodeOfType config s a → Reaches config m s b
reaches-from config m from to s a b of_from of_to here of_s = (to, of_to, subst (λ i. IsSome (entry m i to)) (one_type config from s a of_from of_s) here)

-- the edges with a label fit its matrix
pub edge-fits : (config : ConfigValue) (graph : List Triple) → IsTyped config graph → (label : ℕ) (back : Bool)
    → Fits config (matrix_of (schema_of config) label back) (Pairs (Tree.Step label back) graph)
edge-fits config graph typed label false s a b of_s (triple, inside, labelled, src, trg) =
    let (c, known, of_c) = All-contains (HasConstraint config) graph triple typed.keeps inside in
    let joins = triple-types config typed.rules c known triple of_c in
    let k = constraint_at config c in
    reaches-from config (matrix_of (schema_of config) label false) k.source k.target s a b
    (subst (IsNodeOfType config k.source) src joins.source) (subst (IsNodeOfType config k.target) trg joins.target)
    (subst (λ l. IsSome (entry (matrix_of (schema_of config) l false) k.source k.target)) (sym joins.label ∙ labelled) (constraint-some config typed.rules c known false)) of_s
edge-fits config graph typed label true s a b of_s (triple, inside, labelled, src, trg) =
    let (c, known, of_c) = All-contains (HasConstraint config) graph triple typed.keeps inside in
    let joins = triple-types config typed.rules c known triple of_c in
    let k = constraint_at config c in
    reaches-from config (matrix_of (schema_of config) label true) k.target k.source s a b
    (subst (IsNodeOfType config k.target) trg joins.target) (subst (IsNodeOfType config k.source) src joins.source)
    (subst (λ l. IsSome (entry (matrix_of (schema_of config) l true) k.target k.source)) (sym joins.label ∙ labelled) (constraint-some config typed.rules c known true)) of_s

-- ---- conforming triples

some_counted : (p : ℕ → Bool) (a n : ℕ) → 0 < count_by p (range_with_len a n) → (c : ℕ) × (a ≤ c) × (c < a + n) × (p c ≡ true)
some_counted p a zero some = absurd (omega (arith, some))
some_counted p a (suc n) some = elim (cases_Bool (p a)) [
  | inl hit ↦ (a, omega arith, omega arith, hit)
  | inr miss ↦
      let split = rw miss at (sum_by-cons (λ c. cond (p c) 1 0) a (range_with_len (a + 1) n)) in
      let (c, from, to, hit) = some_counted p (a + 1) n (omega (arith, some, split)) in
      (c, omega (arith, from), omega (arith, to), hit)
]

one-some_constraint : (config : ConfigValue) (triple : Triple) → HasOneConstraint config triple → HasConstraint config triple
one-some_constraint config triple one =
    let (c, from, to, of_c) = some_counted (λ c. is_triple_of config c triple) 0 (length config.constraints) (omega (arith, one)) in
    (c, omega (arith, to), of_c)

pub conforming_graphs_keep_types : ConformingGraphsKeepTypes
conforming_graphs_keep_types config seed triples is = All-weaker (HasOneConstraint config) (HasConstraint config) (one-some_constraint config) triples is.constraints

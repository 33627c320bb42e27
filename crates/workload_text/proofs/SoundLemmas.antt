-- Lines that break no rule say a head that keeps the rules on heads.
use Rattle.std.proofs.Common.{◌≡◌, ◌≢◌, ◌⊎◌, ℕ, ◌+◌, ◌<◌, ◌≤◌, Bool, true, false, not, ◌&&◌, nat_lt, List, [], ◌∷◌, ◌++◌, length, get_or, Option, Some, None, All, AllPairs, refl, sym, ap, arith}
use Rattle.std.specs.List.{list_any}
use Rattle.std.specs.Str.{bytes_eq}
use Rattle.std.proofs.lemmas.Bool.Decides.{nat_tests}
use Rattle.std.proofs.lemmas.List.{length-append, get_or_append_left}
use Rattle.std.proofs.lemmas.List.Elements.{All-nil, All-push, All-weaker}
use Rattle.std.proofs.lemmas.List.Folds.{list_any_at}
use Rattle.std.proofs.lemmas.List.Quantifiers.{all_pairs_push}
use Rattle.std.proofs.lemmas.Slice.Eq.{bytes_eq-Decides}
use Rattle.gm_text.specs.Name.{IsName}
use Rattle.sel_algebra.specs.declared.vocabulary.Op.{Op}
use Rattle.sel_algebra.specs.declared.vocabulary.Kind.{Kind}
use Rattle.sel_algebra.specs.declared.vocabulary.Kind.TheVariants.{Fixed}
use Rattle.sel_algebra.specs.Operators.{IsNormal, normal_of}
use Rattle.sel_algebra.specs.Table.{kind_at}
use Rattle.schema_graph.specs.declared.edge.SchemaEdge.{SchemaEdge}
use Rattle.schema_graph.specs.Edge.{ends, IsSchemaEdge}
use Rattle.schema_graph.specs.Schema.{IsSchema}
use Rattle.workload_text.specs.declared.sorts.Sort.{Sort}
use Rattle.workload_text.specs.declared.sorts.Sort.TheVariants.{First, Label, NodeType, Edge, Query, Rule, Conjunct, End}
use Rattle.workload_text.specs.Values.{HeadValue, IsHead}
use Rattle.workload_text.specs.Lines.{WorkLine, is_format, is_line}
use Rattle.workload_text.specs.Lines.WorkLine.{FirstLine, LabelLine, TypeLine, EdgeLine, QueryLine, RuleLine, ConjunctLine, EndLine}
use Rattle.workload_text.specs.Sofar.{Sofar, number, before_all, after}
use Rattle.workload_text.specs.Rules.{follows, is_new_name, is_new_edge, is_at, is_normal_at, same_op, in_limits}
use Rattle.workload_text.proofs.PassLemmas.{sort_line}

-- ---- lists

-- where none passes, each one fails
none_passes : {X : Type 0} (p : X → Bool) (xs : List X) → list_any p xs ≡ false → All (λ x. p x ≡ false) xs
none_passes p xs none k d within = by (p (get_or xs k d)) refl
  where
    by : (b : Bool) → p (get_or xs k d) ≡ b → p (get_or xs k d) ≡ false
    by true is = absurd (cc (list_any_at p xs k d within is, none))
    by false is = is

pub two_hold : (a b : Bool) → (a && b) ≡ true → (a ≡ true) × (b ≡ true)
two_hold true true h = (refl, refl)
two_hold true false h = absurd (cc)
two_hold false b h = absurd (cc)

pub is_false : (b : Bool) → not b ≡ true → b ≡ false
is_false true h = absurd (cc)
is_false false h = refl

-- ---- names

-- few names that differ
pub record AreFew (names : List (List ℕ)) : Type 0 where
  pub few : length names ≤ 64
  pub each : All IsName names
  pub differ : AllPairs (λ a b. a ≢ b) names

new_name : (names : List (List ℕ)) (name : List ℕ) → AreFew names → IsName name → is_new_name name names ≡ true → AreFew (names ++ name ∷ [])
new_name names name are is new =
    let (room, other) = two_hold (nat_lt (length names) 64) (not (list_any (bytes_eq name) names)) new in
    let none = none_passes (bytes_eq name) names (is_false (list_any (bytes_eq name) names) other) in
    let below : length names < 64 = grind (arith, nat_tests) in
    record {
      few = omega (arith, below, length-append names (name ∷ []));
      each = All-push IsName names name are.each is;
      differ = all_pairs_push (λ a b. a ≢ b) names name are.differ
          (λ k d within same. absurd (cc ((bytes_eq-Decides name (get_or names k d)).1 (sym same), none k d within)));
    }

-- ---- a schema

more_kinds : (kinds : List Kind) (k : Kind) (e : SchemaEdge) → IsSchemaEdge kinds e → IsSchemaEdge (kinds ++ k ∷ []) e
more_kinds kinds k e is = record {
  source = omega (arith, is.source, length-append kinds (k ∷ []));
  label = is.label;
  target = omega (arith, is.target, length-append kinds (k ∷ []));
  normal = rw (get_or_append_left kinds (k ∷ []) Fixed e.source is.source, get_or_append_left kinds (k ∷ []) Fixed e.target is.target) is.normal;
}

new_kind : (kinds : List Kind) (edges : List SchemaEdge) (k : Kind) → IsSchema (record { kinds = kinds; edges = edges }) → length kinds < 64
    → IsSchema (record { kinds = kinds ++ k ∷ []; edges = edges })
new_kind kinds edges k is room = record {
  few_types = omega (arith, room, length-append kinds (k ∷ []));
  few_edges = is.few_edges;
  each_edge = All-weaker (IsSchemaEdge kinds) (IsSchemaEdge (kinds ++ k ∷ [])) (more_kinds kinds k) edges is.each_edge;
  edges_differ = is.edges_differ;
}

same_op-is : (a b : Op) → same_op a b ≡ true → a ≡ b
same_op-is a b h = grind arith

at_ends : (d e : SchemaEdge) → ends d ≡ ends e → is_at e.source e.label e.target d ≡ true
at_ends d e same =
    let source : d.source ≡ e.source = ap (λ p. p.0) same in
    let label : d.label ≡ e.label = ap (λ p. p.1.0) same in
    let target : d.target ≡ e.target = ap (λ p. p.1.1) same in
    grind (arith, nat_tests)

-- what is true of an edge that is new
pub record IsNewEdge (labels : ℕ) (kinds : List Kind) (edges : List SchemaEdge) (e : SchemaEdge) : Type 0 where
  pub room : length edges < 128
  pub source : e.source < length kinds
  pub label : e.label < labels
  pub target : e.target < length kinds
  pub other : All (λ d. is_at e.source e.label e.target d ≡ false) edges
  pub normal : IsNormal e.op (kind_at kinds e.source) (kind_at kinds e.target)

six_hold : (a b c d e f : Bool) → (a && b && c && d && e && f) ≡ true
    → (a ≡ true) × (b ≡ true) × (c ≡ true) × (d ≡ true) × (e ≡ true) × (f ≡ true)
six_hold true true true true true true h = (refl, refl, refl, refl, refl, refl)
six_hold true true true true true false h = absurd (cc)
six_hold true true true true false f h = absurd (cc)
six_hold true true true false e f h = absurd (cc)
six_hold true true false d e f h = absurd (cc)
six_hold true false c d e f h = absurd (cc)
six_hold false b c d e f h = absurd (cc)

pub is_new : (labels : ℕ) (kinds : List Kind) (edges : List SchemaEdge) (e : SchemaEdge) → is_new_edge labels kinds edges e ≡ true → IsNewEdge labels kinds edges e
is_new labels kinds edges e new =
    let (room, source, label, target, other, normal) = six_hold (nat_lt (length edges) 128) (nat_lt e.source (length kinds)) (nat_lt e.label labels)
    (nat_lt e.target (length kinds)) (not (list_any (is_at e.source e.label e.target) edges)) (is_normal_at kinds e.source e.target e.op) new in
    record {
      room = grind (arith, nat_tests);
      source = grind (arith, nat_tests);
      label = grind (arith, nat_tests);
      target = grind (arith, nat_tests);
      other = none_passes (is_at e.source e.label e.target) edges (is_false (list_any (is_at e.source e.label e.target) edges) other);
      normal = same_op-is (normal_of e.op (kind_at kinds e.source) (kind_at kinds e.target)) e.op normal;
    }

new_edge : (labels : ℕ) (kinds : List Kind) (edges : List SchemaEdge) (e : SchemaEdge) → labels ≤ 64 → IsSchema (record { kinds = kinds; edges = edges })
    → IsNewEdge labels kinds edges e → IsSchema (record { kinds = kinds; edges = edges ++ e ∷ [] })
new_edge labels kinds edges e few is new = record {
  few_types = is.few_types;
  few_edges = omega (arith, new.room, length-append edges (e ∷ []));
  each_edge = All-push (IsSchemaEdge kinds) edges e is.each_edge
      (record { source = new.source; label = omega (arith, new.label, few); target = new.target; normal = new.normal });
  edges_differ = all_pairs_push (λ d f. ends d ≢ ends f) edges e is.edges_differ
      (λ k d within same. absurd (cc (at_ends (get_or edges k d) e same, new.other k d within)));
}

-- ---- the head

-- how far the lines of the head have come
abbrev pub stage : Option Sort → ℕ
stage None = 0
stage (Some First) = 1
stage (Some Label) = 2
stage (Some NodeType) = 3
stage (Some sort) = 4

-- how far they must have come before a line
abbrev pub needs : Sort → ℕ
needs First = 0
needs Label = 1
needs NodeType = 2
needs Edge = 3
needs sort = 4

pub comes : (last : Option Sort) (sort : Sort) → follows last sort ≡ true → needs sort ≤ stage last
comes None sort h = grind arith
comes (Some First) sort h = grind arith
comes (Some Label) sort h = grind arith
comes (Some NodeType) sort h = grind arith
comes (Some Edge) sort h = grind arith
comes (Some Query) sort h = grind arith
comes (Some Rule) sort h = grind arith
comes (Some Conjunct) sort h = grind arith
comes (Some End) sort h = grind arith

-- the head so far keeps the rules, but for the lines that haven't come yet
pub record IsSound (n : ℕ) (h : HeadValue) : Type 0 where
  pub format : 1 ≤ n → is_format h.format ≡ true
  pub some_labels : 2 ≤ n → 0 < length h.labels
  pub some_types : 3 ≤ n → 0 < length h.types
  pub some_edges : 4 ≤ n → 0 < length h.schema.edges
  pub labels : AreFew h.labels
  pub types : AreFew h.types
  pub kinds : length h.schema.kinds ≡ length h.types
  pub schema : IsSchema h.schema
  pub named : All (λ e. e.label < length h.labels) h.schema.edges

-- before the first line
pub sound_none : IsSound 0 before_all.head
sound_none = record {
  format = λ h. absurd (omega (arith, h));
  some_labels = λ h. absurd (omega (arith, h));
  some_types = λ h. absurd (omega (arith, h));
  some_edges = λ h. absurd (omega (arith, h));
  labels = no_names;
  types = no_names;
  kinds = refl;
  schema = record {
    few_types = omega arith;
    few_edges = omega arith;
    each_edge = All-nil (IsSchemaEdge []);
    edges_differ = λ i j d less within. absurd (omega (arith, within));
  };
  named = All-nil (λ e. e.label < 0);
}
  where
    no_names : AreFew []
    no_names = record { few = omega arith; each = All-nil IsName; differ = λ i j d less within. absurd (omega (arith, within)) }

-- after a line that is none of the head's
pub sound_later : (n : ℕ) (h : HeadValue) → IsSound n h → 4 ≤ n → IsSound 4 h
sound_later n h is far = record {
  format = λ _. is.format (omega (arith, far));
  some_labels = λ _. is.some_labels (omega (arith, far));
  some_types = λ _. is.some_types (omega (arith, far));
  some_edges = λ _. is.some_edges far;
  labels = is.labels;
  types = is.types;
  kinds = is.kinds;
  schema = is.schema;
  named = is.named;
}

-- after a line that may stand where it does and is in its limits
pub sound_after : (s : Sofar) (l : WorkLine) → IsSound (stage s.last) s.head → needs (sort_line l) ≤ stage s.last → is_line s.head.format l ≡ true → in_limits s l ≡ true
    → IsSound (stage (after s l).last) (after s l).head
sound_after s (FirstLine format) is may named within = record {
  format = λ _. named;
  some_labels = λ h. absurd (omega (arith, h));
  some_types = λ h. absurd (omega (arith, h));
  some_edges = λ h. absurd (omega (arith, h));
  labels = is.labels;
  types = is.types;
  kinds = is.kinds;
  schema = is.schema;
  named = is.named;
}
sound_after s (LabelLine name) is may named within =
    let count : length (s.head.labels ++ name ∷ []) ≡ length s.head.labels + 1 = length-append s.head.labels (name ∷ []) in
    record {
      format = λ _. is.format may;
      some_labels = λ _. omega (arith, count);
      some_types = λ h. absurd (omega (arith, h));
      some_edges = λ h. absurd (omega (arith, h));
      labels = new_name s.head.labels name is.labels named within;
      types = is.types;
      kinds = is.kinds;
      schema = is.schema;
      named = All-weaker (λ e. e.label < length s.head.labels) (λ e. e.label < length (s.head.labels ++ name ∷ [])) (λ e h. omega (arith, h, count))
          s.head.schema.edges is.named;
    }
sound_after s (TypeLine name kind) is may named within =
    let count : length (s.head.types ++ name ∷ []) ≡ length s.head.types + 1 = length-append s.head.types (name ∷ []) in
    let room = (two_hold (nat_lt (length s.head.types) 64) (not (list_any (bytes_eq name) s.head.types)) within).0 in
    let few : length s.head.schema.kinds < 64 = grind (arith, nat_tests, is.kinds) in
    record {
      format = λ _. is.format (omega (arith, may));
      some_labels = λ _. is.some_labels may;
      some_types = λ _. omega (arith, count);
      some_edges = λ h. absurd (omega (arith, h));
      labels = is.labels;
      types = new_name s.head.types name is.types named within;
      kinds = omega (arith, length-append s.head.schema.kinds (kind ∷ []), is.kinds, count);
      schema = new_kind s.head.schema.kinds s.head.schema.edges kind is.schema few;
      named = is.named;
    }
sound_after s (EdgeLine source label target op) is may named within =
    let e : SchemaEdge = record { source = number source; label = number label; target = number target; op = op } in
    let new = is_new (length s.head.labels) s.head.schema.kinds s.head.schema.edges e within in
    record {
      format = λ _. is.format (omega (arith, may));
      some_labels = λ _. is.some_labels (omega (arith, may));
      some_types = λ _. is.some_types may;
      some_edges = λ _. omega (arith, length-append s.head.schema.edges (e ∷ []));
      labels = is.labels;
      types = is.types;
      kinds = is.kinds;
      schema = new_edge (length s.head.labels) s.head.schema.kinds s.head.schema.edges e is.labels.few is.schema new;
      named = All-push (λ d. d.label < length s.head.labels) s.head.schema.edges e is.named new.label;
    }
sound_after s (QueryLine n asked) is may named within = sound_later (stage s.last) s.head is may
sound_after s (RuleLine heads) is may named within = sound_later (stage s.last) s.head is may
sound_after s (ConjunctLine src trg star words) is may named within = sound_later (stage s.last) s.head is may
sound_after s EndLine is may named within = sound_later (stage s.last) s.head is may

-- a head to whose end the lines have come
pub whole_head : (h : HeadValue) → IsSound 4 h → IsHead h
whole_head h is = record {
  format = one_or_two h.format (is.format (omega arith));
  labels = record { some = is.some_labels (omega arith); few = is.labels.few; each = is.labels.each; differ = is.labels.differ };
  types = record { some = is.some_types (omega arith); few = is.types.few; each = is.types.each; differ = is.types.differ };
  kinds = is.kinds;
  schema = is.schema;
  edges = is.some_edges (omega arith);
  named = is.named;
}
  where
    one_or_two : (n : ℕ) → is_format n ≡ true → (n ≡ 1) ⊎ (n ≡ 2)
    one_or_two n h = grind (arith, nat_tests)

-- The lines of a head pass.
use Rattle.std.proofs.Common.{◌≡◌, ◌≢◌, ℕ, zero, suc, ◌+◌, ◌<◌, ◌≤◌, ◌^◌, Bool, true, false, not, ◌==◌, if◌then◌else◌, inl, inr, decimal, Option, Some, None, List, [], ◌∷◌, ◌++◌, length, map, get_or, All, AllPairs, refl, sym, ap, subst, ◌∙◌, arith}
use Rattle.std.specs.Prelude.{nat_lt}
use Rattle.std.specs.List.{list_any}
use Rattle.std.specs.Str.{bytes_eq}
use Rattle.std.proofs.lemmas.Bool.{eqb-true}
use Rattle.std.proofs.lemmas.Bool.Decides.{nat_tests}
use Rattle.std.proofs.lemmas.Slice.Eq.{bytes_eq-Decides}
use Rattle.std.proofs.lemmas.List.{append_assoc, append-nil, length-append}
use Rattle.std.proofs.lemmas.List.Elements.{All-head, All-tail}
use Rattle.std.proofs.Math.ListN.{get_or-append}
use Rattle.std.proofs.Math.Seq.{get_or-append_seam}
use Rattle.gm_text.specs.Name.{IsName}
use Rattle.gm_text.proofs.DecimalLemmas.{decimal_is_canonical, digits_value_decimal}
use Rattle.sel_algebra.specs.declared.vocabulary.Op.{Op}
use Rattle.sel_algebra.specs.declared.vocabulary.Op.TheVariants.{Equal, Less, Greater, Diamond, Cross}
use Rattle.sel_algebra.specs.declared.vocabulary.Kind.{Kind}
use Rattle.schema_graph.specs.declared.edge.SchemaEdge.{SchemaEdge}
use Rattle.schema_graph.specs.Edge.{ends, IsSchemaEdge}
use Rattle.workload_text.specs.declared.sorts.Sort.{Sort}
use Rattle.workload_text.specs.declared.sorts.Sort.TheVariants.{Label, NodeType, Edge}
use Rattle.workload_text.specs.Values.{HeadValue, IsHead}
use Rattle.workload_text.specs.Lines.{WorkLine, is_line, is_format, label_lines, type_lines, edge_line, head_lines}
use Rattle.workload_text.specs.Lines.WorkLine.{FirstLine, LabelLine, TypeLine}
use Rattle.workload_text.specs.Sofar.{Sofar, before_all, no_query, after, after_conjunct, number}
use Rattle.workload_text.specs.Rules.{is_new_name, is_new_edge, is_at, is_normal_at, same_op, follows, after_end, broken, broken_by_line}
use Rattle.workload_text.proofs.LineLemmas.{three}
use Rattle.workload_text.proofs.PassLemmas.{Passes, Passes-append, after_all, after_all-append, text_line, broken-late}

-- ---- what differs from all before it

none-any : {X : Type 0} (p : X → Bool) (xs : List X) → ((i : ℕ) (d : X) → i < length xs → p (get_or xs i d) ≡ false) → list_any p xs ≡ false
none-any p [] each = refl
none-any p (x ∷ xs) each = rw (each zero x (omega arith)) (none-any p xs (λ i d lt. each (suc i) d (omega (arith, lt))))

not_true : (b : Bool) → (b ≡ true → ⊥) → b ≡ false
not_true true no_way = absurd (no_way refl)
not_true false no_way = refl

-- an item of a list, and one of those before it
before-item : {X : Type 0} (R : X → X → Type 0) (done : List X) (x : X) (rest : List X) → AllPairs R (done ++ x ∷ rest) → (i : ℕ) (d : X) → i < length done → R (get_or done i d) x
before-item R done x rest all i d lt =
    let within : length done < length (done ++ x ∷ rest) = omega (arith, length-append done (x ∷ rest)) in
    subst (λ y. R y x) (get_or-append done (x ∷ rest) d i lt)
    (subst (R (get_or (done ++ x ∷ rest) i d)) (get_or-append_seam done x rest d) (all i (length done) d lt within))

new-name : (name : List ℕ) (done rest : List (List ℕ)) → AllPairs (λ a b. a ≢ b) (done ++ name ∷ rest) → length done < 64 → is_new_name name done ≡ true
new-name name done rest differ few =
    let none : list_any (bytes_eq name) done ≡ false = none-any (bytes_eq name) done (λ i d lt.
    not_true (bytes_eq name (get_or done i d)) (λ same.
    before-item (λ a b. a ≢ b) done name rest differ i d lt (sym ((bytes_eq-Decides name (get_or done i d)).0 same)))) in
    let room : nat_lt (length done) 64 ≡ true = grind (arith, nat_tests, few) in
    rw (room, none) refl

-- ---- states

abbrev pub labels_at : ℕ → List (List ℕ) → Sofar
labels_at f labels = record {
  last = Some Label;
  head = record { format = f; labels = labels; types = []; schema = record { kinds = []; edges = [] } };
  queries = [];
  asked = no_query;
  rules = [];
  heads = [];
  conjuncts = [];
}

abbrev pub types_at : ℕ → List (List ℕ) → List (List ℕ) → List Kind → Sofar
types_at f labels types kinds = record {
  last = Some NodeType;
  head = record { format = f; labels = labels; types = types; schema = record { kinds = kinds; edges = [] } };
  queries = [];
  asked = no_query;
  rules = [];
  heads = [];
  conjuncts = [];
}

-- these lines pass, and what they say is this
abbrev pub Leads : Sofar → List WorkLine → Sofar → Type 0
Leads s lines t = Passes s lines × (after_all s lines ≡ t)

pub labels-pass : (f : ℕ) (done names : List (List ℕ)) → All IsName names → AllPairs (λ a b. a ≢ b) (done ++ names) → length done + length names ≤ 64
    → Leads (labels_at f done) (label_lines names) (labels_at f (done ++ names))
labels-pass f done [] each differ few = (tt, ap (labels_at f) (sym (append-nil done)))
labels-pass f done (n ∷ ns) each differ few =
    let new : is_new_name n done ≡ true = new-name n done ns differ (omega (arith, few)) in
    let is : is_line f (LabelLine n) ≡ true = All-head IsName n ns each in
    let ok : broken (labels_at f done) (text_line (LabelLine n)) ≡ None = broken-late (labels_at f done) (LabelLine n) is refl refl refl ∙ rw new refl in
    let others = labels-pass f (done ++ n ∷ []) ns (All-tail IsName n ns each) (subst (AllPairs (λ a b. a ≢ b)) (sym (append_assoc done (n ∷ []) ns)) differ)
    (omega (arith, few, length-append done (n ∷ []))) in
    ((is, ok, others.0), others.1 ∙ ap (labels_at f) (append_assoc done (n ∷ []) ns))

pub types-pass : (f : ℕ) (labels done names : List (List ℕ)) (dkinds kinds : List Kind) → All IsName names → AllPairs (λ a b. a ≢ b) (done ++ names)
    → length done + length names ≤ 64 → length kinds ≡ length names
    → Leads (types_at f labels done dkinds) (type_lines names kinds) (types_at f labels (done ++ names) (dkinds ++ kinds))
types-pass f labels done [] dkinds [] each differ few same = (tt, λ i. types_at f labels (sym (append-nil done) i) (sym (append-nil dkinds) i))
types-pass f labels done [] dkinds (k ∷ kinds) each differ few same = absurd (omega (arith, same))
types-pass f labels done (n ∷ ns) dkinds [] each differ few same = absurd (omega (arith, same))
types-pass f labels done (n ∷ ns) dkinds (k ∷ kinds) each differ few same =
    let new : is_new_name n done ≡ true = new-name n done ns differ (omega (arith, few)) in
    let is : is_line f (TypeLine n k) ≡ true = All-head IsName n ns each in
    let ok : broken (types_at f labels done dkinds) (text_line (TypeLine n k)) ≡ None =
    broken-late (types_at f labels done dkinds) (TypeLine n k) is refl refl refl ∙ rw new refl in
    let others = types-pass f labels (done ++ n ∷ []) ns (dkinds ++ k ∷ []) kinds (All-tail IsName n ns each)
    (subst (AllPairs (λ a b. a ≢ b)) (sym (append_assoc done (n ∷ []) ns)) differ) (omega (arith, few, length-append done (n ∷ []))) (omega (arith, same)) in
    ((is, ok, others.0), others.1 ∙ (λ i. types_at f labels (append_assoc done (n ∷ []) ns i) (append_assoc dkinds (k ∷ []) kinds i)))

pub Leads-append : (s t u : Sofar) (xs ys : List WorkLine) → Leads s xs t → Leads t ys u → Leads s (xs ++ ys) u
Leads-append s t u xs ys first others = (
  Passes-append s xs ys first.0 (subst (λ r. Passes r ys) (sym first.1) others.0),
  after_all-append s xs ys ∙ ap (λ r. after_all r ys) first.1 ∙ others.1,
)

pub Leads-cons : (s r t : Sofar) (x : WorkLine) (xs : List WorkLine) → is_line s.head.format x ≡ true → broken s (text_line x) ≡ None → after s x ≡ r → Leads r xs t
    → Leads s (x ∷ xs) t
Leads-cons s r t x xs is ok to others =
    ((is, ok, subst (λ q. Passes q xs) (sym to) others.0), ap (λ q. after_all q xs) to ∙ others.1)

-- ---- edges

same_op-refl : (o : Op) → same_op o o ≡ true
same_op-refl Equal = refl
same_op-refl Less = refl
same_op-refl Greater = refl
same_op-refl Diamond = refl
same_op-refl Cross = refl

is_at-ends : (e d : SchemaEdge) → is_at e.source e.label e.target d ≡ true → ends d ≡ ends e
is_at-ends e d at =
    let parts = three (d.source == e.source) (d.label == e.label) (d.target == e.target) at in
    λ i. (eqb-true d.source e.source parts.0 i, (eqb-true d.label e.label parts.1 i, eqb-true d.target e.target parts.2 i))

abbrev pub edges_from : Option Sort → HeadValue → Sofar
edges_from last h = record { last = last; head = h; queries = []; asked = no_query; rules = []; heads = []; conjuncts = [] }

module _ (f : ℕ) (labels types : List (List ℕ)) (kinds : List Kind) (few_labels : length labels ≤ 64) (few_kinds : length kinds ≤ 64) where
  abbrev head_with : List SchemaEdge → HeadValue
  head_with edges = record { format = f; labels = labels; types = types; schema = record { kinds = kinds; edges = edges } }

  new-edge : (e : SchemaEdge) (done rest : List SchemaEdge) → IsSchemaEdge kinds e → e.label < length labels → AllPairs (λ d k. ends d ≢ ends k) (done ++ e ∷ rest)
      → length done < 128 → is_new_edge (length labels) kinds done e ≡ true
  new-edge e done rest is named differ few =
      let none : list_any (is_at e.source e.label e.target) done ≡ false = none-any (is_at e.source e.label e.target) done (λ i d lt.
      not_true (is_at e.source e.label e.target (get_or done i d)) (λ at.
      before-item (λ d k. ends d ≢ ends k) done e rest differ i d lt (is_at-ends e (get_or done i d) at))) in
      let room : nat_lt (length done) 128 ≡ true = grind (arith, nat_tests, few) in
      let source : nat_lt e.source (length kinds) ≡ true = grind (arith, nat_tests, is.source) in
      let label : nat_lt e.label (length labels) ≡ true = grind (arith, nat_tests, named) in
      let target : nat_lt e.target (length kinds) ≡ true = grind (arith, nat_tests, is.target) in
      let normal : is_normal_at kinds e.source e.target e.op ≡ true = ap (λ o. same_op o e.op) is.normal ∙ same_op-refl e.op in
      rw (room, source, label, target, none, normal) refl

  edge-step : (last : Option Sort) (e : SchemaEdge) (done rest : List SchemaEdge) → after_end last ≡ false → after_conjunct last ≡ false → follows last Edge ≡ true
      → IsSchemaEdge kinds e → e.label < length labels → AllPairs (λ d k. ends d ≢ ends k) (done ++ e ∷ rest) → length done < 128
      → (is_line f (edge_line e) ≡ true) × (broken (edges_from last (head_with done)) (text_line (edge_line e)) ≡ None)
      × (after (edges_from last (head_with done)) (edge_line e) ≡ edges_from (Some Edge) (head_with (done ++ e ∷ [])))
  edge-step last e done rest going calm stands is named differ few =
      let source : e.source < 2 ^ 64 = omega (arith, is.source, few_kinds) in
      let label : e.label < 2 ^ 64 = omega (arith, named, few_labels) in
      let target : e.target < 2 ^ 64 = omega (arith, is.target, few_kinds) in
      let form : is_line f (edge_line e) ≡ true = rw (decimal_is_canonical e.source source, decimal_is_canonical e.label label, decimal_is_canonical e.target target) refl in
      let back : ◌≡◌ {A = SchemaEdge} (record { source = number (decimal e.source); label = number (decimal e.label); target = number (decimal e.target); op = e.op }) e =
      λ i. record { source = digits_value_decimal e.source source i; label = digits_value_decimal e.label label i; target = digits_value_decimal e.target target i; op = e.op } in
      let late : broken_by_line (edges_from last (head_with done)) (edge_line e) ≡ None =
      ap (λ k. if not (is_new_edge (length labels) kinds done k) then Some 5 else None) back ∙ rw (new-edge e done rest is named differ few) refl in (
        form,
        broken-late (edges_from last (head_with done)) (edge_line e) form going stands (rw calm refl) ∙ late,
        ap (λ k. edges_from (Some Edge) (head_with (done ++ k ∷ []))) back,
      )

  edges-pass : (done edges : List SchemaEdge) → All (IsSchemaEdge kinds) edges → All (λ e. e.label < length labels) edges
      → AllPairs (λ d k. ends d ≢ ends k) (done ++ edges) → length done + length edges ≤ 128
      → Leads (edges_from (Some Edge) (head_with done)) (map edge_line edges) (edges_from (Some Edge) (head_with (done ++ edges)))
  edges-pass done [] each named differ few = (tt, ap (λ es. edges_from (Some Edge) (head_with es)) (sym (append-nil done)))
  edges-pass done (e ∷ es) each named differ few =
      let step = edge-step (Some Edge) e done es refl refl refl (All-head (IsSchemaEdge kinds) e es each) (All-head (λ k. k.label < length labels) e es named) differ (omega (arith, few)) in
      let others = edges-pass (done ++ e ∷ []) es (All-tail (IsSchemaEdge kinds) e es each) (All-tail (λ k. k.label < length labels) e es named)
      (subst (AllPairs (λ d k. ends d ≢ ends k)) (sym (append_assoc done (e ∷ []) es)) differ) (omega (arith, few, length-append done (e ∷ []))) in
      Leads-cons (edges_from (Some Edge) (head_with done)) _ _ (edge_line e) (map edge_line es) step.0 step.1 step.2
      (others.0, others.1 ∙ ap (λ ks. edges_from (Some Edge) (head_with ks)) (append_assoc done (e ∷ []) es))

-- ---- the whole head

head-lines-pass : (f : ℕ) (labels types : List (List ℕ)) (kinds : List Kind) (edges : List SchemaEdge)
    → IsHead (record { format = f; labels = labels; types = types; schema = record { kinds = kinds; edges = edges } })
    → Leads before_all (head_lines (record { format = f; labels = labels; types = types; schema = record { kinds = kinds; edges = edges } }))
    (edges_from (Some Edge) (record { format = f; labels = labels; types = types; schema = record { kinds = kinds; edges = edges } }))
head-lines-pass f [] types kinds edges is = absurd (omega (arith, is.labels.some))
head-lines-pass f (l ∷ ls) [] kinds edges is = absurd (omega (arith, is.types.some))
head-lines-pass f (l ∷ ls) (t ∷ ts) [] edges is = absurd (omega (arith, is.kinds))
head-lines-pass f (l ∷ ls) (t ∷ ts) (k ∷ ks) [] is = absurd (omega (arith, is.edges))
head-lines-pass f (l ∷ ls) (t ∷ ts) (k ∷ ks) (e ∷ es) is =
    let first : is_format f ≡ true = elim is.format [ inl one ↦ rw one refl | inr two ↦ rw two refl ] in
    let label : is_line f (LabelLine l) ≡ true = All-head IsName l ls is.labels.each in
    let type : is_line f (TypeLine t k) ≡ true = All-head IsName t ts is.types.each in
    let begun : Sofar = after before_all (FirstLine f) in
    let few_kinds : length (k ∷ ks) ≤ 64 = omega (arith, is.kinds, is.types.few) in
    let edge = edge-step f (l ∷ ls) (t ∷ ts) (k ∷ ks) is.labels.few few_kinds (Some NodeType) e [] es refl refl refl
    (All-head (IsSchemaEdge (k ∷ ks)) e es is.schema.each_edge) (All-head (λ x. x.label < length (l ∷ ls)) e es is.named) is.schema.edges_differ (omega arith) in
    let after_labels : List WorkLine = TypeLine t k ∷ (type_lines ts ks ++ edge_line e ∷ map edge_line es) in
    Leads-cons before_all begun _ (FirstLine f) (LabelLine l ∷ (label_lines ls ++ after_labels)) first (broken-late before_all (FirstLine f) first refl refl refl) refl
    (Leads-cons begun (labels_at f (l ∷ [])) _ (LabelLine l) _ label
    (broken-late begun (LabelLine l) label refl refl refl) refl
    (Leads-append (labels_at f (l ∷ [])) (labels_at f (l ∷ ls)) _ (label_lines ls) after_labels
    (labels-pass f (l ∷ []) ls (All-tail IsName l ls is.labels.each) is.labels.differ (omega (arith, is.labels.few)))
    (Leads-cons (labels_at f (l ∷ ls)) (types_at f (l ∷ ls) (t ∷ []) (k ∷ [])) _ (TypeLine t k) _ type
    (broken-late (labels_at f (l ∷ ls)) (TypeLine t k) type refl refl refl) refl
    (Leads-append (types_at f (l ∷ ls) (t ∷ []) (k ∷ [])) (types_at f (l ∷ ls) (t ∷ ts) (k ∷ ks)) _ (type_lines ts ks) (edge_line e ∷ map edge_line es)
    (types-pass f (l ∷ ls) (t ∷ []) ts (k ∷ []) ks (All-tail IsName t ts is.types.each) is.types.differ (omega (arith, is.types.few)) (omega (arith, is.kinds)))
    (Leads-cons (types_at f (l ∷ ls) (t ∷ ts) (k ∷ ks)) _ _ (edge_line e) (map edge_line es) edge.0 edge.1 edge.2
    (edges-pass f (l ∷ ls) (t ∷ ts) (k ∷ ks) is.labels.few few_kinds (e ∷ []) es (All-tail (IsSchemaEdge (k ∷ ks)) e es is.schema.each_edge)
    (All-tail (λ x. x.label < length (l ∷ ls)) e es is.named) is.schema.edges_differ (omega (arith, is.schema.few_edges))))))))

pub head-pass : (h : HeadValue) → IsHead h → Leads before_all (head_lines h) (edges_from (Some Edge) h)
head-pass h is = head-lines-pass h.format h.labels h.types h.schema.kinds h.schema.edges is

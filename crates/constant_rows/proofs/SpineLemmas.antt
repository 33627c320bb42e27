-- The rows of a rule are of the two ends of its spine, whose types have an entry in the spine's matrix.
use Rattle.std.proofs.Common.{◌≡◌, ◌≢◌, ℕ, zero, suc, ◌+◌, ◌<◌, Some, List, [], ◌∷◌, length, map, take, refl, sym, ap, subst, ◌∙◌, arith}
use Rattle.std.specs.Bool.{⊤}
use Rattle.std.specs.List.{All, AllByRecursion, fold}
use Rattle.std.proofs.lemmas.List.Elements.{All-from_recursion}
use Rattle.sel_algebra.specs.declared.vocabulary.Class.TheVariants.{Constant}
use Rattle.sel_algebra.specs.declared.vocabulary.Shape.{Shape}
use Rattle.sel_algebra.specs.declared.vocabulary.Kind.TheVariants.{Fixed}
use Rattle.sel_algebra.specs.Entries.{ClassEntryAtMost}
use Rattle.sel_algebra.specs.Table.{Table, kind_at, entry, one_of}
use Rattle.sel_algebra.specs.Greatest.{class_at, greatest_class_of}
use Rattle.sel_algebra.proofs.GreatestLemmas.{ClassEntryAtMost-trans, IsGreatestClass-greatest_class_of}
use Rattle.graph_text.specs.declared.graphs.Triple.{Triple}
use Rattle.gm_config.specs.Config.{ConfigValue}
use Rattle.schema_graph.specs.Configured.{kinds_of, schema_of}
use Rattle.schema_graph.specs.Schema.{SchemaValue}
use Rattle.skeletons.specs.Skeleton.{spine_of}
use Rattle.path_pairs.specs.Trees.{conjunct_tree}
use Rattle.path_pairs.proofs.StarLemmas.{Pairs-nodes}
use Rattle.query_terms.specs.Values.{ConjunctValue, RuleValue}
use Rattle.rpq_meaning.specs.QueryRows.{ConjunctPairs, IsTrueFor, IsRuleRow}
use Rattle.query_draw.specs.Values.{spine}
use Rattle.query_draw.specs.Wide.{conjunct_matrix, times_conjunct, spine_matrix, rule_wide}
use Rattle.constant_rows.specs.Nodes.{IsNodeOfType, IsCountedNode}
use Rattle.constant_rows.proofs.EntryLemmas.{one-some, entry-fixed}
use Rattle.constant_rows.proofs.GraphLemmas.{IsTyped, known_kind, node-type, Reaches}
use Rattle.constant_rows.proofs.PathLemmas.{labels_of, HasWords, conjunct-fits, times-reaches}

-- conjuncts lead from variable i to the next one, from there to the one after it, and so on
abbrev pub Follows : ℕ → List ConjunctValue → Type 0
Follows i [] = ⊤
Follows i (c ∷ cs) = (c.src ≡ i) × (c.trg ≡ suc i) × Follows (suc i) cs

-- the spine of a rule leads from its first head to its second
pub record IsSpined (shape : Shape) (rule : RuleValue) : Type 0 where
  pub some : spine shape rule ≢ []
  pub words : AllByRecursion HasWords (spine shape rule)
  pub follows : Follows 0 (spine shape rule)
  pub heads : rule.heads ≡ 0 ∷ length (spine shape rule) ∷ []

-- a row of two nodes of types with a count
abbrev pub IsCountedRow : ConfigValue → List ℕ → Type 0
IsCountedRow config row = (length row ≡ 2) × All (IsCountedNode config) row

-- ---- a spine

first-type : (config : ConfigValue) (graph : List Triple) → IsTyped config graph → (cs : List ConjunctValue) → cs ≢ [] → (number : ℕ → ℕ)
    → Follows 0 cs → AllByRecursion (IsTrueFor (labels_of config) graph number) cs → (t : ℕ) × IsNodeOfType config t (number 0)
first-type config graph typed [] some number follows holds = absurd (some refl)
first-type config graph typed (c ∷ cs) some number (src, trg, follows) (pairs, holds) =
    let path = conjunct_tree (labels_of config) c.star c.words in
    let (t, of_t) = node-type config graph typed (number c.src) (Pairs-nodes path graph (number c.src) (number c.trg) pairs).0 in
    (t, subst (λ v. IsNodeOfType config t (number v)) src of_t)

conjuncts-reach : (config : ConfigValue) (graph : List Triple) → IsTyped config graph
    → (cs : List ConjunctValue) (m : Table) → m.kinds ≡ kinds_of config → (number : ℕ → ℕ) (i n : ℕ) → Follows i cs → n ≡ i + length cs
    → AllByRecursion HasWords cs → AllByRecursion (IsTrueFor (labels_of config) graph number) cs
    → (s : ℕ) → s < length (kinds_of config) → Reaches config m s (number i) → Reaches config (fold (times_conjunct (schema_of config)) m cs) s (number n)
conjuncts-reach config graph typed [] m kinds number i n follows end words holds s known here =
    let last : i ≡ n = omega (arith, end) in
    subst (λ v. Reaches config m s (number v)) last here
conjuncts-reach config graph typed (c ∷ cs) m kinds number i n (src, trg, follows) end (has, words) (pairs, holds) s known here =
    let g = schema_of config in
    let labels = labels_of config in
    let step : ConjunctPairs labels graph c (number i) (number (suc i)) =
    subst (λ v. ConjunctPairs labels graph c (number i) (number v)) trg (subst (λ v. ConjunctPairs labels graph c (number v) (number c.trg)) src pairs) in
    let more = times-reaches config m (conjunct_matrix g c) kinds (ConjunctPairs labels graph c) (conjunct-fits config graph typed c has) s (number i) (number (suc i)) known here step in
    conjuncts-reach config graph typed cs (times_conjunct g m c) kinds number (suc i) n follows (omega (arith, end)) words holds s known more

spine-kinds : (g : SchemaValue) (cs : List ConjunctValue) (m : Table) → (fold (times_conjunct g) m cs).kinds ≡ m.kinds
spine-kinds g [] m = refl
spine-kinds g (c ∷ cs) m = spine-kinds g cs (times_conjunct g m c)

-- ---- a rule

holds-take : (P : ConjunctValue → Type 0) (n : ℕ) (cs : List ConjunctValue) → AllByRecursion P cs → AllByRecursion P (take n cs)
holds-take P zero cs holds = tt
holds-take P (suc n) [] holds = tt
holds-take P (suc n) (c ∷ cs) (here, holds) = (here, holds-take P n cs holds)

-- between the types of an entry of a matrix whose greatest class is constant at most, both have a count
fixed-ends : (config : ConfigValue) (p : Table) → p.kinds ≡ kinds_of config → ClassEntryAtMost (greatest_class_of p) (Some Constant)
    → (s a b : ℕ) → IsNodeOfType config s a → Reaches config p s b → IsCountedNode config a × IsCountedNode config b
fixed-ends config p kinds most s a b of_s (t, of_t, here) =
    let p_s = subst (λ ks. s < length ks) (sym kinds) (known_kind config s a of_s) in
    let p_t = subst (λ ks. t < length ks) (sym kinds) (known_kind config t b of_t) in
    let least = (IsGreatestClass-greatest_class_of p).at_least s t p_s p_t in
    let fixed = entry-fixed (entry p s t) (kind_at p.kinds s) (kind_at p.kinds t) here (ClassEntryAtMost-trans (class_at p s t) (greatest_class_of p) (Some Constant) least most) in
    ((s, of_s, subst (λ ks. kind_at ks s ≡ Fixed) kinds fixed.0), (t, of_t, subst (λ ks. kind_at ks t ≡ Fixed) kinds fixed.1))

pub rule-counted : (config : ConfigValue) (graph : List Triple) → IsTyped config graph → (shape : Shape) (rule : RuleValue) → IsSpined shape rule
    → ClassEntryAtMost (rule_wide (schema_of config) shape rule) (Some Constant) → (row : List ℕ) → IsRuleRow (labels_of config) graph rule row → IsCountedRow config row
rule-counted config graph typed shape rule spined most row (number, holds, are) =
    let g = schema_of config in
    let kinds = kinds_of config in
    let cs = spine shape rule in
    let along = holds-take (IsTrueFor (labels_of config) graph number) (spine_of shape (length rule.conjuncts)) rule.conjuncts holds in
    let (s, of_s) = first-type config graph typed cs spined.some number spined.follows along in
    let known = known_kind config s (number 0) of_s in
    let end = conjuncts-reach config graph typed cs (one_of kinds) refl number 0 (length cs) spined.follows (omega arith) spined.words along s known (s, of_s, one-some kinds s known) in
    let (first, last) = fixed-ends config (spine_matrix g cs) (spine-kinds g cs (one_of kinds)) most s (number 0) (number (length cs)) of_s end in
    subst (IsCountedRow config) (sym (are ∙ ap (map number) spined.heads)) (refl, All-from_recursion (IsCountedNode config) (number 0 ∷ number (length cs) ∷ []) (first, (last, tt)))

-- Words that lead from type to type, and that the class of a query is at most its wide class.
use Rattle.std.proofs.Common.{◌≡◌, ◌≢◌, ℕ, ◌<◌, ◌≤◌, Bool, true, false, if◌then◌else◌, Option, Some, None, List, [], ◌∷◌, length, map, slice_index_or, refl, sym, ap, subst, ◌∙◌, arith}
use Rattle.std.specs.List.{All, Contains, fold}
use Rattle.std.proofs.lemmas.Bool.{eq-eqb}
use Rattle.std.proofs.lemmas.List.{get_or-map, length-map}
use Rattle.std.proofs.lemmas.List.Elements.{All-head, All-tail, All-get_or, Contains-get_or}
use Rattle.sel_algebra.specs.declared.vocabulary.Op.{Op}
use Rattle.sel_algebra.specs.declared.vocabulary.Op.TheVariants.{Equal}
use Rattle.sel_algebra.specs.declared.vocabulary.Class.{Class}
use Rattle.sel_algebra.specs.declared.vocabulary.Kind.{Kind}
use Rattle.sel_algebra.specs.declared.vocabulary.Shape.{Shape}
use Rattle.sel_algebra.specs.declared.vocabulary.Symbol.{Symbol}
use Rattle.sel_algebra.specs.Operators.{join_of, star_of, IsNormal, typed_composition, growth_class}
use Rattle.sel_algebra.specs.Entries.{joined, EntryAtMost, ClassEntryAtMost, greater_class}
use Rattle.sel_algebra.specs.Table.{types_most, Table, kind_at, entry, IsMatrix, one_at, zero_of, one_of, times_of}
use Rattle.sel_algebra.specs.Closure.{closure_of}
use Rattle.sel_algebra.specs.Greatest.{greatest_class_of}
use Rattle.sel_algebra.proofs.EntryLemmas.{IsNormal-normal_of, EntryAtMost-refl, EntryAtMost-trans, EntryAtMost-joined_left, EntryAtMost-joined_right, joined-EntryAtMost}
use Rattle.sel_algebra.proofs.TableLemmas.{entry-table_of, entry-plus_of, IsMatrix-one_of, IsMatrix-zero_of, IsMatrix-times_of, IsMatrix-plus_of}
use Rattle.sel_algebra.proofs.PathLemmas.{product_paths, join_parts, closure_star, greatest_entries}
use Rattle.schema_graph.specs.Edge.{edge_at, taken, use_of, start_of, end_of, op_of, label_of, IsSchemaEdge}
use Rattle.schema_graph.specs.Schema.{SchemaValue, IsSchema}
use Rattle.schema_graph.specs.Labelled.{all_taken}
use Rattle.schema_graph.proofs.EdgeLemmas.{IsSchemaEdge-taken}
use Rattle.schema_graph.proofs.LabelledLemmas.{HasOperators-matrix_of}
use Rattle.sel_graph.specs.Values.{value_from, value_of}
use Rattle.query_terms.specs.Values.{ConjunctValue, RuleValue, has_class}
use Rattle.query_draw.specs.Values.{Leads, LeadsWord, LeadsConjunct, LeadsSpine, word_start, end_from, word_end, first_word, word_value, union_value, conjunct_value, composed_along, spine, spine_start, spine_end_from, spine_end, spine_class, rule_class, greatest_of}
use Rattle.query_draw.specs.Wide.{symbol_matrix, times_symbol, word_matrix, plus_word, union_matrix, conjunct_matrix, times_conjunct, spine_matrix, rule_wide}
use Rattle.query_draw.specs.Laws.{HasSpine, ClassIsAtMostWideClass}

-- ---- ends

Leads-end : (g : SchemaValue) (t u : ℕ) (word : List Symbol) → Leads g t word u → end_from g t word ≡ u
Leads-end g t u [] same = same
Leads-end g t u (c ∷ word) (known, starts, leads) = Leads-end g (end_of g.edges c) u word leads

starts-there : (g : SchemaValue) (t u : ℕ) (word : List Symbol) → word ≢ [] → Leads g t word u → word_start g word ≡ t
starts-there g t u [] some leads = absurd (some refl)
starts-there g t u (c ∷ word) some (known, starts, leads) = starts

-- a word starts at the type from which it leads
pub LeadsWord-start : (g : SchemaValue) (t u : ℕ) (word : List Symbol) → LeadsWord g t word u → word_start g word ≡ t
LeadsWord-start g t u word is = starts-there g t u word is.some is.leads

-- and ends at the type to which it leads
pub LeadsWord-end : (g : SchemaValue) (t u : ℕ) (word : List Symbol) → LeadsWord g t word u → word_end g word ≡ u
LeadsWord-end g t u word is = ap (λ x. end_from g x word) (LeadsWord-start g t u word is) ∙ Leads-end g t u word is.leads

first_of_all : {X : Type 0} (P : X → Type 0) (d : X) (xs : List X) → xs ≢ [] → All P xs → P (slice_index_or xs 0 d)
first_of_all P d [] some all = absurd (some refl)
first_of_all P d (x ∷ xs) some all = All-head P x xs all

-- the first word of a conjunct leads where the conjunct does
pub LeadsConjunct-word : (g : SchemaValue) (t u : ℕ) (c : ConjunctValue) → LeadsConjunct g t c u → LeadsWord g t (first_word c) u
LeadsConjunct-word g t u c is = first_of_all (λ word. LeadsWord g t word u) [] c.words is.some is.each

pub LeadsConjunct-end : (g : SchemaValue) (t u : ℕ) (c : ConjunctValue) → LeadsConjunct g t c u → word_end g (first_word c) ≡ u
LeadsConjunct-end g t u c is = LeadsWord-end g t u (first_word c) (LeadsConjunct-word g t u c is)

ends-there : (g : SchemaValue) (t u : ℕ) (cs : List ConjunctValue) → LeadsSpine g t cs u → spine_end_from g t cs ≡ u
ends-there g t u [] same = same
ends-there g t u (c ∷ cs) (m, first, rest) = ap (λ x. spine_end_from g x cs) (LeadsConjunct-end g t m c first) ∙ ends-there g m u cs rest

-- conjuncts start at the type from which they lead
pub LeadsSpine-start : (g : SchemaValue) (t u : ℕ) (cs : List ConjunctValue) → cs ≢ [] → LeadsSpine g t cs u → spine_start g cs ≡ t
LeadsSpine-start g t u [] some leads = absurd (some refl)
LeadsSpine-start g t u (c ∷ cs) some (m, first, rest) = LeadsWord-start g t m (first_word c) (LeadsConjunct-word g t m c first)

-- and end at the type to which they lead
pub LeadsSpine-end : (g : SchemaValue) (t u : ℕ) (cs : List ConjunctValue) → cs ≢ [] → LeadsSpine g t cs u → spine_end g cs ≡ u
LeadsSpine-end g t u cs some leads = ap (λ x. spine_end_from g x cs) (LeadsSpine-start g t u cs some leads) ∙ ends-there g t u cs leads

-- ---- symbols

pub symbol_edge : (g : SchemaValue) → IsSchema g → (c : Symbol) → c.edge < length g.edges → IsSchemaEdge g.kinds (use_of g.edges c)
symbol_edge g is c known = IsSchemaEdge-taken g.kinds c.back (edge_at g.edges c.edge) (All-get_or (IsSchemaEdge g.kinds) g.edges c.edge _ known is.each_edge)

-- a word leads to a type of the schema
Leads-inside : (g : SchemaValue) → IsSchema g → (t u : ℕ) (word : List Symbol) → t < length g.kinds → Leads g t word u → u < length g.kinds
Leads-inside g is t u [] here same = subst (λ x. x < length g.kinds) same here
Leads-inside g is t u (c ∷ word) here (known, starts, leads) = Leads-inside g is (end_of g.edges c) u word (symbol_edge g is c known).target leads

used : (g : SchemaValue) (c : Symbol) → c.edge < length g.edges → Contains (all_taken g c.back) (use_of g.edges c)
used g c known =
    let e = edge_at g.edges c.edge in
    subst (Contains (all_taken g c.back)) (get_or-map (taken c.back) g.edges c.edge _ e known)
    (Contains-get_or (all_taken g c.back) c.edge e (rw (length-map g.edges (taken c.back)) known))

-- the matrix of a symbol has its operator between its ends
pub symbol_entry : (g : SchemaValue) → IsSchema g → (c : Symbol) → c.edge < length g.edges → entry (symbol_matrix g c) (start_of g.edges c) (end_of g.edges c) ≡ Some (op_of g.edges c)
symbol_entry g is c known =
    let edge = symbol_edge g is c known in
    ((HasOperators-matrix_of g (label_of g.edges c) c.back is).entries (start_of g.edges c) (end_of g.edges c) edge.source edge.target (op_of g.edges c)).1 (used g c known)

-- ---- products over types of given kinds

pub times-at_least : (kinds : List Kind) (a b : Table) (i k j : ℕ) (v w : Op) → a.kinds ≡ kinds → i < length kinds → k < length kinds → j < length kinds
    → EntryAtMost (Some v) (entry a i k) → EntryAtMost (Some w) (entry b k j)
    → EntryAtMost (Some (typed_composition v w (kind_at kinds i) (kind_at kinds j))) (entry (times_of a b) i j)
times-at_least kinds a b i k j v w same p q r first second =
    subst (λ ks. EntryAtMost (Some (typed_composition v w (kind_at ks i) (kind_at ks j))) (entry (times_of a b) i j)) same
    (product_paths a b i k j v w (rw same p) (rw same q) (rw same r) first second)

pub one-least : (kinds : List Kind) (t : ℕ) → t < length kinds → EntryAtMost (Some Equal) (entry (one_of kinds) t t)
one-least kinds t here = rw (entry-table_of kinds one_at t t here here, eq-eqb t t refl) (EntryAtMost-refl (Some Equal))

-- ---- words

symbols-at_least : (g : SchemaValue) → IsSchema g → (a : Table) → a.kinds ≡ g.kinds → (t s u : ℕ) (v : Op) (word : List Symbol) → t < length g.kinds → s < length g.kinds
    → EntryAtMost (Some v) (entry a t s) → Leads g s word u → EntryAtMost (Some (value_from g (kind_at g.kinds t) v word)) (entry (fold (times_symbol g) a word) t u)
symbols-at_least g is a kinds t s u v [] p q least leads = subst (λ x. EntryAtMost (Some v) (entry a t x)) leads least
symbols-at_least g is a kinds t s u v (c ∷ word) p q least (known, starts, leads) =
    let edge = symbol_edge g is c known in
    let exact : EntryAtMost (Some (op_of g.edges c)) (entry (symbol_matrix g c) (start_of g.edges c) (end_of g.edges c)) =
    subst (EntryAtMost (Some (op_of g.edges c))) (sym (symbol_entry g is c known)) (EntryAtMost-refl (Some (op_of g.edges c))) in
    let here : EntryAtMost (Some (op_of g.edges c)) (entry (symbol_matrix g c) s (end_of g.edges c)) =
    subst (λ x. EntryAtMost (Some (op_of g.edges c)) (entry (symbol_matrix g c) x (end_of g.edges c))) starts exact in
    let more = times-at_least g.kinds a (symbol_matrix g c) t s (end_of g.edges c) v (op_of g.edges c) kinds p q edge.target least here in
    symbols-at_least g is (times_symbol g a c) kinds t (end_of g.edges c) u (typed_composition v (op_of g.edges c) (kind_at g.kinds t) (kind_at g.kinds (end_of g.edges c))) word p edge.target more leads

-- the matrix of a word is at least the word's value
word-at_least : (g : SchemaValue) → IsSchema g → (t u : ℕ) (word : List Symbol) → t < length g.kinds → LeadsWord g t word u → EntryAtMost (Some (word_value g word)) (entry (word_matrix g word) t u)
word-at_least g is t u word here leads =
    subst (λ x. EntryAtMost (Some (value_of g x word)) (entry (word_matrix g word) t u)) (sym (LeadsWord-start g t u word leads))
    (symbols-at_least g is (one_of g.kinds) refl t t u Equal word here here (one-least g.kinds t here) leads.leads)

-- ---- unions

pub join_moves : (a b c : Op) → join_of (join_of a b) c ≡ join_of a (join_of b c)
join_moves a b c = grind (arith)

below_join : (v w : Op) (a b : Option Op) → EntryAtMost (Some v) a → EntryAtMost (Some w) b → EntryAtMost (Some (join_of v w)) (joined a b)
below_join v w a b first second =
    joined-EntryAtMost (Some v) (Some w) (joined a b) (EntryAtMost-trans (Some v) a (joined a b) first (EntryAtMost-joined_left a b)) (EntryAtMost-trans (Some w) b (joined a b) second (EntryAtMost-joined_right a b))

pub union_kinds : (g : SchemaValue) (a : Table) (words : List (List Symbol)) → (fold (plus_word g) a words).kinds ≡ a.kinds
union_kinds g a [] = refl
union_kinds g a (word ∷ words) = union_kinds g (plus_word g a word) words

pub word_kinds : (g : SchemaValue) (a : Table) (word : List Symbol) → (fold (times_symbol g) a word).kinds ≡ a.kinds
word_kinds g a [] = refl
word_kinds g a (c ∷ word) = word_kinds g (times_symbol g a c) word

-- a join of words is at least what it begins with, joined with the words' values
unions-at_least : (g : SchemaValue) → IsSchema g → (a : Table) → a.kinds ≡ g.kinds → (t u : ℕ) (v : Op) (words : List (List Symbol)) → t < length g.kinds → u < length g.kinds
    → EntryAtMost (Some v) (entry a t u) → All (λ word. LeadsWord g t word u) words → EntryAtMost (Some (join_of v (union_value g words))) (entry (fold (plus_word g) a words) t u)
unions-at_least g is a kinds t u v [] here there least each = subst (λ x. EntryAtMost (Some x) (entry a t u)) (sym (right v)) least
  where
    right : (a : Op) → join_of a Equal ≡ a
    right a = grind (arith)
unions-at_least g is a kinds t u v (word ∷ words) here there least each =
    let first = word-at_least g is t u word here (All-head (λ w. LeadsWord g t w u) word words each) in
    let both : EntryAtMost (Some (join_of v (word_value g word))) (entry (plus_word g a word) t u) =
    rw (entry-plus_of a (word_matrix g word) t u (rw kinds here) (rw kinds there)) (below_join v (word_value g word) (entry a t u) (entry (word_matrix g word) t u) least first) in
    subst (λ x. EntryAtMost (Some x) (entry (fold (plus_word g) (plus_word g a word) words) t u)) (join_moves v (word_value g word) (union_value g words))
    (unions-at_least g is (plus_word g a word) kinds t u (join_of v (word_value g word)) words here there both (All-tail (λ w. LeadsWord g t w u) word words each))

-- the matrix of some words is at least the join of their values
union-at_least : (g : SchemaValue) → IsSchema g → (t u : ℕ) (words : List (List Symbol)) → t < length g.kinds → u < length g.kinds → words ≢ []
    → All (λ word. LeadsWord g t word u) words → EntryAtMost (Some (union_value g words)) (entry (union_matrix g words) t u)
union-at_least g is t u [] here there some each = absurd (some refl)
union-at_least g is t u (word ∷ words) here there some each =
    let first = word-at_least g is t u word here (All-head (λ w. LeadsWord g t w u) word words each) in
    let begun = EntryAtMost-trans (Some (word_value g word)) (entry (word_matrix g word) t u) (entry (plus_word g (zero_of g.kinds) word) t u) first ((join_parts (zero_of g.kinds) (word_matrix g word) t u here there).1) in
    unions-at_least g is (plus_word g (zero_of g.kinds) word) refl t u (word_value g word) words here there begun (All-tail (λ w. LeadsWord g t w u) word words each)

-- ---- normal values

equal_normal : (k : Kind) → IsNormal Equal k k
equal_normal k = grind (arith)

join_normal : (a b : Op) (k l : Kind) → IsNormal a k l → IsNormal b k l → IsNormal (join_of a b) k l
join_normal a b k l p q = grind (arith)

values_normal : (g : SchemaValue) (kind : Kind) (s u : ℕ) (a : Op) (word : List Symbol) → IsNormal a kind (kind_at g.kinds s) → Leads g s word u → IsNormal (value_from g kind a word) kind (kind_at g.kinds u)
values_normal g kind s u a [] normal same = subst (λ x. IsNormal a kind (kind_at g.kinds x)) same normal
values_normal g kind s u a (c ∷ word) normal (known, starts, leads) =
    values_normal g kind (end_of g.edges c) u (typed_composition a (op_of g.edges c) kind (kind_at g.kinds (end_of g.edges c))) word (IsNormal-normal_of _ kind (kind_at g.kinds (end_of g.edges c))) leads

word_normal : (g : SchemaValue) (t u : ℕ) (word : List Symbol) → LeadsWord g t word u → IsNormal (word_value g word) (kind_at g.kinds t) (kind_at g.kinds u)
word_normal g t u word leads =
    subst (λ x. IsNormal (value_of g x word) (kind_at g.kinds t) (kind_at g.kinds u)) (sym (LeadsWord-start g t u word leads))
    (values_normal g (kind_at g.kinds t) t u Equal word (equal_normal (kind_at g.kinds t)) leads.leads)

union_normal : (g : SchemaValue) (t : ℕ) (words : List (List Symbol)) → All (λ word. LeadsWord g t word t) words → IsNormal (union_value g words) (kind_at g.kinds t) (kind_at g.kinds t)
union_normal g t [] each = equal_normal (kind_at g.kinds t)
union_normal g t (word ∷ words) each =
    join_normal (word_value g word) (union_value g words) (kind_at g.kinds t) (kind_at g.kinds t) (word_normal g t t word (All-head (λ w. LeadsWord g t w t) word words each))
    (union_normal g t words (All-tail (λ w. LeadsWord g t w t) word words each))

-- ---- matrices

pub word_is_matrix : (g : SchemaValue) (a : Table) (word : List Symbol) → IsMatrix a → IsMatrix (fold (times_symbol g) a word)
word_is_matrix g a [] is = is
word_is_matrix g a (c ∷ word) is = word_is_matrix g (times_symbol g a c) word (IsMatrix-times_of a (symbol_matrix g c) is)

-- a matrix, joined with those of words
pub union_is_matrix : (g : SchemaValue) → length g.kinds ≤ types_most → (a : Table) → a.kinds ≡ g.kinds → (words : List (List Symbol)) → IsMatrix a → IsMatrix (fold (plus_word g) a words)
union_is_matrix g few a kinds [] is = is
union_is_matrix g few a kinds (word ∷ words) is =
    let one = word_is_matrix g (one_of g.kinds) word (IsMatrix-one_of g.kinds few) in
    union_is_matrix g few (plus_word g a word) kinds words (IsMatrix-plus_of a (word_matrix g word) (word_kinds g (one_of g.kinds) word ∙ sym kinds) is one)

-- ---- conjuncts and spines

by_star : (star : Bool) (v w : Op) (a b : Table) (t u : ℕ) → (star ≡ false → EntryAtMost (Some v) (entry a t u)) → (star ≡ true → EntryAtMost (Some w) (entry b t u))
    → EntryAtMost (Some (if star then w else v)) (entry (if star then b else a) t u)
by_star true v w a b t u plain starred = starred refl
by_star false v w a b t u plain starred = plain refl

-- the matrix of a conjunct is at least the conjunct's value
conjunct-at_least : (g : SchemaValue) → IsSchema g → (t u : ℕ) (c : ConjunctValue) → t < length g.kinds → u < length g.kinds → LeadsConjunct g t c u
    → EntryAtMost (Some (conjunct_value g c)) (entry (conjunct_matrix g c) t u)
conjunct-at_least g is t u c here there leads =
    let m = union_matrix g c.words in
    let v = union_value g c.words in
    by_star c.star v (star_of v) m (closure_of m) t u (λ plain. union-at_least g is t u c.words here there leads.some leads.each) (λ starred.
    let same : u ≡ t = sym (leads.starred starred) in
    let kinds : m.kinds ≡ g.kinds = union_kinds g (zero_of g.kinds) c.words in
    let each : All (λ word. LeadsWord g t word t) c.words = subst (λ x. All (λ word. LeadsWord g t word x) c.words) same leads.each in
    let normal : IsNormal v (kind_at m.kinds t) (kind_at m.kinds t) = subst (λ ks. IsNormal v (kind_at ks t) (kind_at ks t)) (sym kinds) (union_normal g t c.words each) in
    let matrix : IsMatrix m = union_is_matrix g is.few_types (zero_of g.kinds) refl c.words (IsMatrix-zero_of g.kinds is.few_types) in
    subst (λ x. EntryAtMost (Some (star_of v)) (entry (closure_of m) t x)) (sym same)
    (closure_star m t v matrix (subst (λ ks. t < length ks) (sym kinds) here) normal (union-at_least g is t t c.words here here leads.some each)))

-- a conjunct leads to a type of the schema
pub LeadsConjunct-inside : (g : SchemaValue) → IsSchema g → (t u : ℕ) (c : ConjunctValue) → t < length g.kinds → LeadsConjunct g t c u → u < length g.kinds
LeadsConjunct-inside g is t u c here leads = Leads-inside g is t u (first_word c) here (LeadsConjunct-word g t u c leads).leads

spines-at_least : (g : SchemaValue) → IsSchema g → (a : Table) → a.kinds ≡ g.kinds → (t s u : ℕ) (v : Op) (cs : List ConjunctValue) → t < length g.kinds → s < length g.kinds
    → EntryAtMost (Some v) (entry a t s) → LeadsSpine g s cs u → (u < length g.kinds) × EntryAtMost (Some (composed_along g t v cs)) (entry (fold (times_conjunct g) a cs) t u)
spines-at_least g is a kinds t s u v [] inside here least same = (subst (λ x. x < length g.kinds) same here, subst (λ x. EntryAtMost (Some v) (entry a t x)) same least)
spines-at_least g is a kinds t s u v (c ∷ cs) inside here least (m, first, rest) =
    let there = LeadsConjunct-inside g is s m c here first in
    let more = times-at_least g.kinds a (conjunct_matrix g c) t s m v (conjunct_value g c) kinds inside here there least (conjunct-at_least g is s m c here there first) in
    let end = LeadsConjunct-end g s m c first in
    let composed = typed_composition v (conjunct_value g c) (kind_at g.kinds t) (kind_at g.kinds (word_end g (first_word c))) in
    let same : typed_composition v (conjunct_value g c) (kind_at g.kinds t) (kind_at g.kinds m) ≡ composed = ap (λ x. typed_composition v (conjunct_value g c) (kind_at g.kinds t) (kind_at g.kinds x)) (sym end) in
    spines-at_least g is (times_conjunct g a c) kinds t m u composed cs inside there (subst (λ x. EntryAtMost (Some x) (entry (times_conjunct g a c) t m)) same more) rest

pub spine_kinds : (g : SchemaValue) (a : Table) (cs : List ConjunctValue) → (fold (times_conjunct g) a cs).kinds ≡ a.kinds
spine_kinds g a [] = refl
spine_kinds g a (c ∷ cs) = spine_kinds g (times_conjunct g a c) cs

-- ---- classes

-- the class of a spine is at most the greatest class in its matrix
spine_class-at_most : (g : SchemaValue) → IsSchema g → (t u : ℕ) (cs : List ConjunctValue) → cs ≢ [] → t < length g.kinds → LeadsSpine g t cs u
    → ClassEntryAtMost (Some (spine_class g cs)) (greatest_class_of (spine_matrix g cs))
spine_class-at_most g is t u cs some here leads =
    let p = spine_matrix g cs in
    let kinds : p.kinds ≡ g.kinds = spine_kinds g (one_of g.kinds) cs in
    let (there, least) = spines-at_least g is (one_of g.kinds) refl t t u Equal cs here here (one-least g.kinds t here) leads in
    let v = composed_along g t Equal cs in
    let class : ClassEntryAtMost (Some (growth_class v (kind_at g.kinds t) (kind_at g.kinds u))) (greatest_class_of p) =
    subst (λ ks. ClassEntryAtMost (Some (growth_class v (kind_at ks t) (kind_at ks u))) (greatest_class_of p)) kinds
    (greatest_entries p t u v (subst (λ ks. t < length ks) (sym kinds) here) (subst (λ ks. u < length ks) (sym kinds) there) least) in
    let start = LeadsSpine-start g t u cs some leads in
    let end = LeadsSpine-end g t u cs some leads in
    let same : growth_class v (kind_at g.kinds t) (kind_at g.kinds u) ≡ spine_class g cs =
    λ i. growth_class (composed_along g (sym start i) Equal cs) (kind_at g.kinds (sym start i)) (kind_at g.kinds (sym end i)) in
    subst (λ x. ClassEntryAtMost (Some x) (greatest_class_of p)) same class

greater-mono : (a b c d : Option Class) → ClassEntryAtMost a c → ClassEntryAtMost b d → ClassEntryAtMost (greater_class a b) (greater_class c d)
greater-mono None None c d p q = tt
greater-mono None (Some b) None d p q = q
greater-mono None (Some b) (Some c) None p q = absurd q
greater-mono None (Some b) (Some c) (Some d) p q = right b c d q
  where
    right : (b c d : Class) → ClassEntryAtMost (Some b) (Some d) → ClassEntryAtMost (Some b) (greater_class (Some c) (Some d))
    right b c d q = grind (arith)
greater-mono (Some a) None None d p q = absurd p
greater-mono (Some a) None (Some c) None p q = p
greater-mono (Some a) None (Some c) (Some d) p q = left a c d p
  where
    left : (a c d : Class) → ClassEntryAtMost (Some a) (Some c) → ClassEntryAtMost (Some a) (greater_class (Some c) (Some d))
    left a c d p = grind (arith)
greater-mono (Some a) (Some b) None d p q = absurd p
greater-mono (Some a) (Some b) (Some c) None p q = absurd q
greater-mono (Some a) (Some b) (Some c) (Some d) p q = both a b c d p q
  where
    both : (a b c d : Class) → ClassEntryAtMost (Some a) (Some c) → ClassEntryAtMost (Some b) (Some d) → ClassEntryAtMost (greater_class (Some a) (Some b)) (greater_class (Some c) (Some d))
    both a b c d p q = grind (arith)

-- the class of a rule is at most its wide class
rule-at_most : (g : SchemaValue) → IsSchema g → (shape : Shape) (rule : RuleValue) → HasSpine g shape rule → ClassEntryAtMost (rule_class g shape rule) (rule_wide g shape rule)
rule-at_most g is shape rule has = spine_class-at_most g is has.start has.end (spine shape rule) has.some has.inside has.leads

greatest-at_most : (g : SchemaValue) → IsSchema g → (shape : Shape) (rules : List RuleValue) → All (HasSpine g shape) rules
    → ClassEntryAtMost (greatest_of (map (rule_class g shape) rules)) (greatest_of (map (rule_wide g shape) rules))
greatest-at_most g is shape [] all = tt
greatest-at_most g is shape (rule ∷ rules) all =
    greater-mono (rule_class g shape rule) (greatest_of (map (rule_class g shape) rules)) (rule_wide g shape rule) (greatest_of (map (rule_wide g shape) rules))
    (rule-at_most g is shape rule (All-head (HasSpine g shape) rule rules all)) (greatest-at_most g is shape rules (All-tail (HasSpine g shape) rule rules all))

where_two : (two : Bool) (c d : Option Class) → ClassEntryAtMost c d → ClassEntryAtMost (if two then c else None) (if two then d else None)
where_two true c d p = p
where_two false c d p = tt

-- the class of a query whose spines lead along is at most its wide class
pub class_at_most_wide : ClassIsAtMostWideClass
class_at_most_wide g is shape rules all =
    where_two (has_class rules) (greatest_of (map (rule_class g shape) rules)) (greatest_of (map (rule_wide g shape) rules)) (greatest-at_most g is shape rules all)

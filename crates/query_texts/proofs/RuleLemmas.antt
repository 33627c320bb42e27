-- What the rules of a head say of all conjuncts of a query.
use Rattle.std.proofs.Common.{◌≡◌, ℕ, ◌*◌, ◌<◌, ◌≤◌, Bool, true, ◌&&◌, nat_lt, nat_le, List, [], ◌∷◌, length, All, Some, slice_get, refl, ap, subst, ◌∙◌, arith}
use Rattle.std.specs.List.{list_all}
use Rattle.std.proofs.lemmas.Bool.{and_parts}
use Rattle.std.proofs.lemmas.Bool.Decides.{nat_tests}
use Rattle.std.proofs.lemmas.List.{length-append, length-map}
use Rattle.std.proofs.lemmas.List.Folds.{list_all-append}
use Rattle.std.proofs.lemmas.List.Elements.{All-get_or, All-head, All-tail}
use Rattle.std.proofs.lemmas.Option.{slice_get_within, get_or_from_slice_get}
use Rattle.schema_graph.specs.declared.edge.SchemaEdge.{SchemaEdge}
use Rattle.query_terms.specs.Values.{ConjunctValue, RuleValue, QueryValue, is_conjunct, is_rule, are_rules, has_heads, conjuncts_of}
use Rattle.workload_text.specs.Values.{HeadValue, WorkValue, IsConjunct, IsRule, IsQuery, IsWork}

pub both : (a b : Bool) → a ≡ true → b ≡ true → (a && b) ≡ true
both a b p q = cc

pub below : (a b : ℕ) → a < b → nat_lt a b ≡ true
below a b less = grind (arith, nat_tests)

pub from-below : (a b : ℕ) → nat_lt a b ≡ true → a < b
from-below a b test = grind (arith, nat_tests)

pub from-at_most : (a b : ℕ) → nat_le a b ≡ true → a ≤ b
from-at_most a b test = grind (arith, nat_tests)

-- a test that holds of what has a property
pub list_all-from_All : {X : Type 0} (p : X → Bool) (P : X → Type 0) (xs : List X) → ((x : X) → P x → p x ≡ true) → All P xs → list_all p xs ≡ true
list_all-from_All p P [] each all = refl
list_all-from_All p P (x ∷ xs) each all = both (p x) (list_all p xs) (each x (All-head P x xs all)) (list_all-from_All p P xs each (All-tail P x xs all))

-- a test of conjuncts that keep the rules
pub conjuncts-tested : (edges : List SchemaEdge) (test : ConjunctValue → Bool) → ((c : ConjunctValue) → IsConjunct edges c → test c ≡ true)
    → (rules : List RuleValue) → All (IsRule edges) rules → list_all test (conjuncts_of rules) ≡ true
conjuncts-tested edges test each [] all = refl
conjuncts-tested edges test each (r ∷ rules) all =
    let rule = All-head (IsRule edges) r rules all in
    list_all-append test r.conjuncts (conjuncts_of rules)
    ∙ both _ _ (list_all-from_All test (IsConjunct edges) r.conjuncts each rule.each) (conjuncts-tested edges test each rules (All-tail (IsRule edges) r rules all))

-- there are at most eight for each rule
pub conjuncts-few : (edges : List SchemaEdge) (rules : List RuleValue) → All (IsRule edges) rules → length (conjuncts_of rules) ≤ 8 * length rules
conjuncts-few edges [] all = omega arith
conjuncts-few edges (r ∷ rules) all =
    let rule = All-head (IsRule edges) r rules all in
    let rest = conjuncts-few edges rules (All-tail (IsRule edges) r rules all) in
    omega (arith, rule.few, rest, length-append r.conjuncts (conjuncts_of rules))

-- the labels of the edges are as many as these
pub labels-long : (h : HeadValue) (q : QueryValue) → IsQuery h q → length q.labels ≡ length h.schema.edges
labels-long h q is = ap length is.labels ∙ length-map h.schema.edges (λ e. e.label)

-- a query that keeps the rules of a head keeps those of queries
pub rules-are : (h : HeadValue) (q : QueryValue) → IsQuery h q → are_rules (length q.labels) q.rules ≡ true
rules-are h q is =
    let edges = h.schema.edges in
    let each = list_all-from_All (is_rule (length edges)) (IsRule edges) q.rules (λ r rule. rule.built) is.each in
    rw (labels-long h q is) (both _ _ (both _ _ (below 0 (length q.rules) is.some) each) is.arity)

-- each of its conjuncts has words, and these have symbols
pub conjuncts-are : (edges : ℕ) (rules : List RuleValue) → list_all (is_rule edges) rules ≡ true → list_all (is_conjunct edges) (conjuncts_of rules) ≡ true
conjuncts-are edges [] all = refl
conjuncts-are edges (r ∷ rules) all =
    let parts = and_parts (is_rule edges r) (list_all (is_rule edges) rules) all in
    let rule = and_parts (nat_lt 0 (length r.conjuncts) && list_all (is_conjunct edges) r.conjuncts) (has_heads r) parts.0 in
    list_all-append (is_conjunct edges) r.conjuncts (conjuncts_of rules)
    ∙ both _ _ (and_parts (nat_lt 0 (length r.conjuncts)) (list_all (is_conjunct edges) r.conjuncts) rule.0).1 (conjuncts-are edges rules parts.1)

-- a query of a workload keeps the rules of its head
pub query-keeps : (v : WorkValue) (h : HeadValue) (number : ℕ) (q : QueryValue) → IsWork v → h ≡ v.head → slice_get v.queries number ≡ Some q → IsQuery h q
query-keeps v h number q is head at =
    let own = All-get_or (IsQuery v.head) v.queries number q (slice_get_within v.queries number q at) is.each in
    rw head (subst (IsQuery v.head) (get_or_from_slice_get v.queries number q q at) own)

-- What the numbers of a summary are.
use Rattle.std.proofs.Common.{◌≡◌, ◌↔◌, ℕ, zero, suc, ◌+◌, ◌-◌, ◌^◌, ◌<◌, ◌≤◌, Bool, true, false, cond, List, [], ◌∷◌, ◌++◌, length, map, Option, Some, None, is_some, refl, sym, ap, ◌∙◌, arith}
use Rattle.std.specs.Prelude.{All, IsSome}
use Rattle.std.specs.List.{range_with_len, AllByRecursion}
use Rattle.std.proofs.lemmas.List.{length-append}
use Rattle.std.proofs.lemmas.List.Elements.{filter-append, recursion_from_All}
use Rattle.std.proofs.lemmas.List.FromFn.{map-range_with_len_more}
use Rattle.sel_algebra.specs.declared.vocabulary.Class.{Class}
use Rattle.sel_algebra.specs.declared.vocabulary.Class.TheVariants.{Constant, Linear, Quadratic}
use Rattle.graph_text.specs.declared.graphs.Triple.{Triple}
use Rattle.gm_config.specs.Config.{ConfigValue}
use Rattle.edge_match.specs.declared.config_sides.Side.TheVariants.{Out, In}
use Rattle.edge_match.specs.AllEdges.{AreEdgesOf}
use Rattle.edge_match.specs.ConformingGraph.{triples_of, IsConforming}
use Rattle.edge_match.specs.DrawnDegrees.{smaller_total}
use Rattle.edge_match.proofs.RangeLemmas.{Conforms-AreEdgesOf}
use Rattle.edge_match.proofs.TotalLemmas.{sum-side_degrees}
use Rattle.query_terms.specs.Values.{QueryValue}
use Rattle.summary_text.specs.Summary.{SummaryValue, with_constraint, class_total, HasRoom}
use Rattle.summary_text.specs.Counts.{is_class, queries_of_class, edge_counts, summary_with, summary_of, drawn_summary}
use Rattle.summary_text.specs.Laws.{with_class_of}

-- ---- classes

pub is_class-exact : (class : Class) (o : Option Class) → (is_class class o ≡ true) ↔ (o ≡ Some class)
is_class-exact Constant None = (λ is. absurd (cc), λ is. absurd (cc))
is_class-exact Linear None = (λ is. absurd (cc), λ is. absurd (cc))
is_class-exact Quadratic None = (λ is. absurd (cc), λ is. absurd (cc))
is_class-exact Constant (Some Constant) = (λ _. refl, λ _. refl)
is_class-exact Constant (Some Linear) = (λ is. absurd (cc), λ is. absurd (cc))
is_class-exact Constant (Some Quadratic) = (λ is. absurd (cc), λ is. absurd (cc))
is_class-exact Linear (Some Constant) = (λ is. absurd (cc), λ is. absurd (cc))
is_class-exact Linear (Some Linear) = (λ _. refl, λ _. refl)
is_class-exact Linear (Some Quadratic) = (λ is. absurd (cc), λ is. absurd (cc))
is_class-exact Quadratic (Some Constant) = (λ is. absurd (cc), λ is. absurd (cc))
is_class-exact Quadratic (Some Linear) = (λ is. absurd (cc), λ is. absurd (cc))
is_class-exact Quadratic (Some Quadratic) = (λ _. refl, λ _. refl)

-- the number of queries of a class, by cases on the first
length-kept : (b : Bool) (q : QueryValue) (qs : List QueryValue) → length (cond b (q ∷ qs) qs) ≡ cond b (length qs + 1) (length qs)
length-kept true q qs = omega arith
length-kept false q qs = refl

-- a class is counted once, and for one class alone
counted_once : (o : Option Class) (a b c : ℕ)
    → cond (is_class Constant o) (a + 1) a + cond (is_class Linear o) (b + 1) b + cond (is_class Quadratic o) (c + 1) c ≡ cond (is_some o) 1 0 + (a + b + c)
counted_once None a b c = omega arith
counted_once (Some Constant) a b c = omega arith
counted_once (Some Linear) a b c = omega arith
counted_once (Some Quadratic) a b c = omega arith

class_total-first : (edges : List ℕ) (q : QueryValue) (qs : List QueryValue)
    → class_total (summary_with edges (q ∷ qs)) ≡ cond (is_some q.class) 1 0 + class_total (summary_with edges qs)
class_total-first edges q qs =
    let once = counted_once q.class (length (queries_of_class Constant qs)) (length (queries_of_class Linear qs)) (length (queries_of_class Quadratic qs)) in
    omega (
      arith,
      once,
      length-kept (is_class Constant q.class) q (queries_of_class Constant qs),
      length-kept (is_class Linear q.class) q (queries_of_class Linear qs),
      length-kept (is_class Quadratic q.class) q (queries_of_class Quadratic qs),
    )

class_total-all : (edges : List ℕ) (queries : List QueryValue) → AllByRecursion (λ (q : QueryValue). IsSome q.class) queries
    → class_total (summary_with edges queries) ≡ length queries
class_total-all edges [] each = refl
class_total-all edges (q ∷ qs) each =
    let first = rw each.0 at (class_total-first edges q qs) in
    omega (arith, first, class_total-all edges qs each.1)

pub classes-add_up : (config : ConfigValue) (triples : List Triple) (queries : List QueryValue) → All (λ q. IsSome q.class) queries
    → class_total (summary_of config triples queries) ≡ length queries
classes-add_up config triples queries each =
    class_total-all (edge_counts config triples) queries (recursion_from_All (λ (q : QueryValue). IsSome q.class) queries each)

one_at_most : (b : Bool) → cond b 1 0 ≤ 1
one_at_most true = omega arith
one_at_most false = omega arith

-- whether they have classes or not, there are no more classes than queries
pub class_total-most : (edges : List ℕ) (queries : List QueryValue) → class_total (summary_with edges queries) ≤ length queries
class_total-most edges [] = omega arith
class_total-most edges (q ∷ qs) = omega (arith, class_total-first edges q qs, one_at_most (is_some q.class), class_total-most edges qs)

-- so there is room for one query more after few queries
pub HasRoom-summary_with : (edges : List ℕ) (queries : List QueryValue) → length queries < 2 ^ 64 - 1 → HasRoom (summary_with edges queries)
HasRoom-summary_with edges queries few = omega (arith, few, class_total-most edges queries)

-- one query more is one more of its class
length-more : (class : Class) (queries : List QueryValue) (q : QueryValue)
    → length (queries_of_class class (queries ++ q ∷ [])) ≡ cond (is_class class q.class) (length (queries_of_class class queries) + 1) (length (queries_of_class class queries))
length-more class queries q = rw (filter-append (λ (q : QueryValue). is_class class q.class) queries (q ∷ [])) (more (is_class class q.class) (queries_of_class class queries))
  where
    more : (b : Bool) (qs : List QueryValue) → length (qs ++ cond b (q ∷ []) []) ≡ cond b (length qs + 1) (length qs)
    more true qs = length-append qs (q ∷ [])
    more false qs = length-append qs [] ∙ omega arith

same_numbers : (edges : List ℕ) (a b c x y z : ℕ) → a ≡ x → b ≡ y → c ≡ z
    → ◌≡◌ {A = SummaryValue} (record { edges = edges; constant = a; linear = b; quadratic = c }) (record { edges = edges; constant = x; linear = y; quadratic = z })
same_numbers edges a b c x y z p q r = rw (p, q, r) refl

counted : (o : Option Class) (edges : List ℕ) (a b c : ℕ)
    → ◌≡◌ {A = SummaryValue} (record { edges = edges; constant = cond (is_class Constant o) (a + 1) a; linear = cond (is_class Linear o) (b + 1) b; quadratic = cond (is_class Quadratic o) (c + 1) c })
    (with_class_of o (record { edges = edges; constant = a; linear = b; quadratic = c }))
counted None edges a b c = refl
counted (Some Constant) edges a b c = refl
counted (Some Linear) edges a b c = refl
counted (Some Quadratic) edges a b c = refl

pub query-counted : (edges : List ℕ) (queries : List QueryValue) (q : QueryValue)
    → summary_with edges (queries ++ q ∷ []) ≡ with_class_of q.class (summary_with edges queries)
query-counted edges queries q =
    same_numbers edges _ _ _ _ _ _ (length-more Constant queries q) (length-more Linear queries q) (length-more Quadratic queries q)
    ∙ counted q.class edges (length (queries_of_class Constant queries)) (length (queries_of_class Linear queries)) (length (queries_of_class Quadratic queries))

-- ---- constraints

-- two functions that agree on numbers in a row give one list of them
map-agree : (f g : ℕ → ℕ) (a n : ℕ) → ((i : ℕ) → i < a + n → f i ≡ g i) → map f (range_with_len a n) ≡ map g (range_with_len a n)
map-agree f g a zero agree = refl
map-agree f g a (suc n) agree = rw (agree a (omega arith)) (ap (◌∷◌ (g a)) (map-agree f g (a + 1) n (λ i below. agree i (omega (arith, below)))))

pub constraints-smaller_total : (config : ConfigValue) (seed : ℕ) (triples : List Triple) (queries : List QueryValue) → IsConforming config seed triples
    → summary_of config triples queries ≡ drawn_summary config seed (length config.constraints) queries
constraints-smaller_total config seed triples queries conforming =
    ap (λ (edges : List ℕ). summary_with edges queries)
    (map-agree (λ c. length (triples_of config c triples)) (smaller_total config seed) 0 (length config.constraints) (λ c below. conforming.numbers c (omega (arith, below))))

-- the edges of a constraint are as many as the smaller of its two totals
pub length-AreEdgesOf : (config : ConfigValue) (seed c : ℕ) (own : List Triple) → AreEdgesOf config seed c own → length own ≡ smaller_total config seed c
length-AreEdgesOf config seed c own are =
    rw (sum-side_degrees config seed c Out, sum-side_degrees config seed c In) at (Conforms-AreEdgesOf config seed c own are).number

-- its smaller total is the next number
pub total-counted : (config : ConfigValue) (seed n : ℕ) (queries : List QueryValue)
    → drawn_summary config seed (n + 1) queries ≡ with_constraint (smaller_total config seed n) (drawn_summary config seed n queries)
total-counted config seed n queries =
    ap (λ (edges : List ℕ). summary_with edges queries) (map-range_with_len_more (smaller_total config seed) 0 n n (omega arith))

pub constraint-counted : (config : ConfigValue) (seed n : ℕ) (own : List Triple) (queries : List QueryValue) → AreEdgesOf config seed n own
    → drawn_summary config seed (n + 1) queries ≡ with_constraint (length own) (drawn_summary config seed n queries)
constraint-counted config seed n own queries are =
    total-counted config seed n queries
    ∙ ap (λ k. with_constraint k (drawn_summary config seed n queries)) (sym (length-AreEdgesOf config seed n own are))

-- What a printed text asks keeps the conditions of texts: its heads are few and differ, and each is in every group.
use Rattle.std.proofs.Common.{◌≡◌, ℕ, zero, suc, ◌+◌, Bool, true, false, ◌==◌, ◌||◌, ◌&&◌, nat_le, if◌then◌else◌, List, [], ◌∷◌, length, map, refl, sym, ap, subst, ◌∙◌, arith}
use Rattle.std.specs.Prelude.{⊤, not, bytes_eq}
use Rattle.std.specs.Fmt.{digits}
use Rattle.std.specs.List.{list_all, list_any, range_with_len}
use Rattle.std.proofs.lemmas.Bool.{and_parts, or_parts, eqb-true, eq-eqb, leb-true}
use Rattle.std.proofs.lemmas.List.FromFn.{length-map-range_with_len}
use Rattle.std.proofs.lemmas.Slice.Eq.{bytes_eq-Decides}
use Rattle.query_terms.specs.Values.{ConjunctValue, RuleValue, QueryValue, occurs, differ, arity_built, arity_of, has_heads, is_rule, have_heads, are_rules}
use Rattle.query_terms.proofs.SpanLemmas.{and_true}
use Rattle.sparql_read.specs.Text.{heads_most, occurs_in, are_different, has_all, holds}
use Rattle.sparql_emit.specs.QueryText.{head_name, head_names, variable_from, variable_of}
use Rattle.sparql_emit.specs.Printed.{pattern_of, group_of, printed_of}

-- ---- the heads of a rule have the names of their places

abbrev AreNamed : (ℕ → List ℕ) → ℕ → List ℕ → Type 0
AreNamed name j [] = ⊤
AreNamed name j (h ∷ hs) = (name h ≡ head_name j) × AreNamed name (j + 1) hs

-- one more head in front takes no name from those that differ from it
named_behind : (name : ℕ → List ℕ) (first : List ℕ) (h j : ℕ) (hs : List ℕ) → list_any (λ m. h == m) hs ≡ false → AreNamed name j hs
    → AreNamed (λ v. if h == v then first else name v) j hs
named_behind name first h j [] none named = tt
named_behind name first h j (k ∷ hs) none named =
    let parts = or_parts (h == k) (list_any (λ m. h == m) hs) none in
    (ap (λ b. if b then first else name k) parts.0 ∙ named.0, named_behind name first h (j + 1) hs parts.1 named.1)

not_false : (b : Bool) → not b ≡ true → b ≡ false
not_false true e = cc
not_false false e = refl

heads_are_named : (j : ℕ) (hs : List ℕ) → differ hs ≡ true → AreNamed (variable_from j hs) j hs
heads_are_named j [] different = tt
heads_are_named j (h ∷ hs) different =
    let parts = and_parts (not (list_any (λ m. h == m) hs)) (differ hs) different in (
      ap (λ b. if b then head_name j else variable_from (j + 1) hs h) (eq-eqb h h refl),
      named_behind (variable_from (j + 1) hs) (head_name j) h (j + 1) hs (not_false (list_any (λ m. h == m) hs) parts.0) (heads_are_named (j + 1) hs parts.1),
    )

-- ---- each head is in the group of its rule

bytes_same : (xs ys : List ℕ) → xs ≡ ys → bytes_eq xs ys ≡ true
bytes_same xs ys same = grind (arith, bytes_eq-Decides)

false_true : ◌≡◌ {A = Bool} false true → ⊥
false_true e = cc

-- each of two facts has its own consequence
or_map : (a b x y : Bool) → (a ≡ true → x ≡ true) → (b ≡ true → y ≡ true) → (a || b) ≡ true → (x || y) ≡ true
or_map a b true y f g some = refl
or_map true b false y f g some = absurd (false_true (f refl))
or_map false b false y f g some = g some

module _ (names : List (List ℕ)) (labels : List ℕ) where
  occurs_there : (heads : List ℕ) (v : ℕ) (cs : List ConjunctValue) → occurs cs v ≡ true → occurs_in (variable_of heads v) (map (pattern_of names labels heads) cs) ≡ true
  occurs_there heads v [] occur = occur
  occurs_there heads v (c ∷ cs) occur =
      or_map ((c.src == v) || (c.trg == v)) (occurs cs v) _ _
      (or_map (c.src == v) (c.trg == v) _ _
      (λ is. bytes_same (variable_of heads v) (variable_of heads c.src) (ap (variable_of heads) (sym (eqb-true c.src v is))))
      (λ is. bytes_same (variable_of heads v) (variable_of heads c.trg) (ap (variable_of heads) (sym (eqb-true c.trg v is)))))
      (occurs_there heads v cs) occur

  all_there : (heads : List ℕ) (cs : List ConjunctValue) (j : ℕ) (hs : List ℕ) → AreNamed (variable_of heads) j hs → list_all (occurs cs) hs ≡ true
      → list_all (λ x. occurs_in x (map (pattern_of names labels heads) cs)) (map head_name (range_with_len j (length hs))) ≡ true
  all_there heads cs j [] named occur = refl
  all_there heads cs j (h ∷ hs) named occur =
      let parts = and_parts (occurs cs h) (list_all (occurs cs) hs) occur in
      and_true (subst (λ x. occurs_in x (map (pattern_of names labels heads) cs) ≡ true) named.0 (occurs_there heads h cs parts.0))
      (all_there heads cs (j + 1) hs named.1 parts.1)

  group_has_all : (edges n : ℕ) (r : RuleValue) → is_rule edges r ≡ true → length r.heads ≡ n → has_all (head_names n) (group_of names labels r) ≡ true
  group_has_all edges n r is many =
      let heads = and_parts (arity_built (length r.heads) && differ r.heads) (list_all (occurs r.conjuncts) r.heads) (and_parts _ (has_heads r) is).1 in
      let different = (and_parts (arity_built (length r.heads)) (differ r.heads) heads.0).1 in
      subst (λ m. has_all (head_names m) (group_of names labels r) ≡ true) many
      (all_there r.heads r.conjuncts 0 r.heads (heads_are_named 0 r.heads different) heads.1)

  groups_have_all : (edges n : ℕ) (rs : List RuleValue) → list_all (is_rule edges) rs ≡ true → have_heads n rs ≡ true
      → list_all (has_all (head_names n)) (map (group_of names labels) rs) ≡ true
  groups_have_all edges n [] are many = refl
  groups_have_all edges n (r ∷ rs) are many =
      let one = and_parts (is_rule edges r) (list_all (is_rule edges) rs) are in
      let two = and_parts (length r.heads == n) (have_heads n rs) many in
      and_true (group_has_all edges n r one.0 (eqb-true (length r.heads) n two.0)) (groups_have_all edges n rs one.1 two.1)

-- ---- heads are few, and differ

heads_differ : (n : ℕ) → nat_le n heads_most ≡ true → are_different (head_names n) ≡ true
unfolding digits
heads_differ zero few = refl
heads_differ (suc zero) few = refl
heads_differ (suc (suc zero)) few = refl
heads_differ (suc (suc (suc zero))) few = refl
heads_differ (suc (suc (suc (suc zero)))) few = refl
heads_differ (suc (suc (suc (suc (suc n))))) few = absurd (omega (arith, leb-true (suc (suc (suc (suc (suc n))))) 4 few))

few_heads : (edges : ℕ) (rs : List RuleValue) → list_all (is_rule edges) rs ≡ true → nat_le (arity_of rs) heads_most ≡ true
few_heads edges [] are = refl
few_heads edges (r ∷ rs) are =
    let is = (and_parts (is_rule edges r) _ are).0 in
    (and_parts (arity_built (length r.heads)) _ (and_parts _ (list_all (occurs r.conjuncts) r.heads) (and_parts _ (has_heads r) is).1).0).0

pub printed_holds : (names : List (List ℕ)) (q : QueryValue) → are_rules (length q.labels) q.rules ≡ true → holds (printed_of names q) ≡ true
printed_holds names q are =
    let parts = and_parts _ (have_heads (arity_of q.rules) q.rules) are in
    let each = (and_parts _ (list_all (is_rule (length q.labels)) q.rules) parts.0).1 in
    let few = few_heads (length q.labels) q.rules each in
    and_true (and_true (ap (λ n. nat_le n heads_most) (length-map-range_with_len head_name 0 (arity_of q.rules)) ∙ few) (heads_differ (arity_of q.rules) few))
    (groups_have_all names q.labels (length q.labels) (arity_of q.rules) q.rules each parts.1)

-- Lists that gain a pattern or a group behind.
use Rattle.std.proofs.Common.{◌≡◌, ◌≤◌, ◌<◌, ℕ, zero, suc, get_or, Bool, true, ◌&&◌, ◌||◌, List, [], ◌∷◌, ◌++◌, ◌+◌, refl, sym, ap, ◌∙◌, length, drop, arith}
use Rattle.std.specs.List.{list_all}
use Rattle.std.proofs.lemmas.List.{append_assoc, append-nil, length-append}
use Rattle.gm_text.specs.declared.lists.Span.{Span}
use Rattle.sparql_read.specs.Grammar.{Pattern}
use Rattle.sparql_read.specs.Layout.{Node, Entry, number, nodes, all_nodes, entries, flat, spans}
use Rattle.sparql_read.specs.Text.{is_end_of, occurs_in, has_all}
use Rattle.sparql_read.specs.Query.{occurs_in_entries, entries_have_all, AreWithin}
use Rattle.sparql_read.proofs.PlaceLemmas.{numbers}

zero_plus : (n : ℕ) → 0 + n ≡ n
zero_plus n = omega arith

plus_zero : (n : ℕ) → n + 0 ≡ n
plus_zero n = omega arith

abbrev entry : ℕ → Pattern → Entry
entry n p = record { subject = p.subject; path = number n p.path; object = p.object }

-- behind a pattern's paths and others
behind : (n : ℕ) (q : Pattern) (ps : List Pattern)
    → (number n q.path + 1) + length (all_nodes (number n q.path + 1) ps) ≡ n + length (all_nodes n (q ∷ ps))
behind n q ps = omega (arith, numbers n q.path, length-append (nodes n q.path) (all_nodes (number n q.path + 1) ps))

nodes_push : (n : ℕ) (ps : List Pattern) (p : Pattern) → all_nodes n (ps ++ p ∷ []) ≡ all_nodes n ps ++ nodes (n + length (all_nodes n ps)) p.path
nodes_push n [] p = append-nil (nodes n p.path) ∙ ap (λ (k : ℕ). nodes k p.path) (sym (plus_zero n))
nodes_push n (q ∷ ps) p =
    ap (λ (xs : List Node). nodes n q.path ++ xs) (nodes_push (number n q.path + 1) ps p)
    ∙ (sym (append_assoc (nodes n q.path) (all_nodes (number n q.path + 1) ps) (nodes ((number n q.path + 1) + length (all_nodes (number n q.path + 1) ps)) p.path))
    ∙ ap (λ (k : ℕ). all_nodes n (q ∷ ps) ++ nodes k p.path) (behind n q ps))

entries_push : (n : ℕ) (ps : List Pattern) (p : Pattern) → entries n (ps ++ p ∷ []) ≡ entries n ps ++ entry (n + length (all_nodes n ps)) p ∷ []
entries_push n [] p = ap (λ (k : ℕ). entry k p ∷ []) (sym (plus_zero n))
entries_push n (q ∷ ps) p =
    ap (λ (xs : List Entry). entry n q ∷ xs) (entries_push (number n q.path + 1) ps p)
    ∙ ap (λ (k : ℕ). entries n (q ∷ ps) ++ entry k p ∷ []) (behind n q ps)

pub nodes_more : (ps : List Pattern) (p : Pattern) → all_nodes 0 (ps ++ p ∷ []) ≡ all_nodes 0 ps ++ nodes (length (all_nodes 0 ps)) p.path
nodes_more ps p = nodes_push 0 ps p ∙ ap (λ (k : ℕ). all_nodes 0 ps ++ nodes k p.path) (zero_plus (length (all_nodes 0 ps)))

pub entries_more : (ps : List Pattern) (p : Pattern) → entries 0 (ps ++ p ∷ []) ≡ entries 0 ps ++ entry (length (all_nodes 0 ps)) p ∷ []
entries_more ps p = entries_push 0 ps p ∙ ap (λ (k : ℕ). entries 0 ps ++ entry k p ∷ []) (zero_plus (length (all_nodes 0 ps)))

pub entries_length : (n : ℕ) (ps : List Pattern) → length (entries n ps) ≡ length ps
entries_length n [] = refl
entries_length n (p ∷ ps) = ap (λ (k : ℕ). suc k) (entries_length (number n p.path + 1) ps)

pub flat_more : (gs : List (List Pattern)) (g : List Pattern) → flat (gs ++ g ∷ []) ≡ flat gs ++ g
flat_more [] g = append-nil g
flat_more (h ∷ gs) g = ap (λ (ps : List Pattern). h ++ ps) (flat_more gs g) ∙ sym (append_assoc h (flat gs) g)

spans_push : (n : ℕ) (gs : List (List Pattern)) (g : List Pattern)
    → spans n (gs ++ g ∷ []) ≡ spans n gs ++ record { first = n + length (flat gs); count = length g } ∷ []
spans_push n [] g = ap (λ (k : ℕ). record { first = k; count = length g } ∷ []) (sym (plus_zero n))
spans_push n (h ∷ gs) g =
    let same : (n + length h) + length (flat gs) ≡ n + length (h ++ flat gs) = omega (arith, length-append h (flat gs)) in
    ap (λ (xs : List Span). record { first = n; count = length h } ∷ xs) (spans_push (n + length h) gs g)
    ∙ ap (λ (k : ℕ). spans n (h ∷ gs) ++ record { first = k; count = length g } ∷ []) same

pub spans_more : (gs : List (List Pattern)) (g : List Pattern)
    → spans 0 (gs ++ g ∷ []) ≡ spans 0 gs ++ record { first = length (flat gs); count = length g } ∷ []
spans_more gs g =
    spans_push 0 gs g ∙ ap (λ (k : ℕ). spans 0 gs ++ record { first = k; count = length g } ∷ []) (zero_plus (length (flat gs)))

-- a variable is in patterns exactly where it is in their entries
occurs_same : (x : List ℕ) (n : ℕ) (ps : List Pattern) → occurs_in_entries x (entries n ps) ≡ occurs_in x ps
occurs_same x n [] = refl
occurs_same x n (p ∷ ps) = ap (λ (b : Bool). is_end_of x p || b) (occurs_same x (number n p.path + 1) ps)

all_same : (xs : List (List ℕ)) (n : ℕ) (ps : List Pattern) → entries_have_all xs (entries n ps) ≡ has_all xs ps
all_same [] n ps = refl
all_same (x ∷ xs) n ps = λ i. occurs_same x n ps i && all_same xs n ps i

-- behind the entries of some patterns stand those of the others
entries_drop : (n : ℕ) (qs ps : List Pattern) → (m : ℕ) × (drop (length qs) (entries n (qs ++ ps)) ≡ entries m ps)
entries_drop n [] ps = (n, refl)
entries_drop n (q ∷ qs) ps = entries_drop (number n q.path + 1) qs ps

pub group_has_all : (xs : List (List ℕ)) (qs ps : List Pattern) → entries_have_all xs (drop (length qs) (entries 0 (qs ++ ps))) ≡ has_all xs ps
group_has_all xs qs ps = let x = entries_drop 0 qs ps in ap (entries_have_all xs) x.1 ∙ all_same xs x.0 ps

pub all_snoc : {A : Type 0} (f : A → Bool) (xs : List A) (x : A) → list_all f (xs ++ x ∷ []) ≡ (list_all f xs && f x)
all_snoc f [] x = and_last (f x)
  where
    and_last : (b : Bool) → (b && true) ≡ (true && b)
    and_last b = grind arith
all_snoc f (y ∷ ys) x = ap (λ (b : Bool). f y && b) (all_snoc f ys x) ∙ and_nest (f y) (list_all f ys) (f x)
  where
    and_nest : (a b c : Bool) → (a && (b && c)) ≡ ((a && b) && c)
    and_nest a b c = grind arith

spans_within : (n m : ℕ) (gs : List (List Pattern)) → n + length (flat gs) ≤ m → AreWithin m (spans n gs)
spans_within n m [] e = tt
spans_within n m (g ∷ gs) e =
    (omega (arith, e, length-append g (flat gs)), spans_within (n + length g) m gs (omega (arith, e, length-append g (flat gs))))

-- each group is within the patterns of all
pub groups_within : (gs : List (List Pattern)) → AreWithin (length (entries 0 (flat gs))) (spans 0 gs)
groups_within gs = spans_within 0 (length (entries 0 (flat gs))) gs (rw entries_length (omega arith))

pub within_at : (n : ℕ) (ss : List Span) (g : ℕ) (d : Span) → AreWithin n ss → g < length ss → (get_or ss g d).first + (get_or ss g d).count ≤ n
within_at n [] g d w e = absurd (below_none g e)
  where
    below_none : (g : ℕ) → g < length {A = Span} [] → ⊥
    below_none g e = omega (arith, e)
within_at n (s ∷ ss) zero d w e = w.0
within_at n (s ∷ ss) (suc g) d w e = within_at n ss g d w.1 (omega (arith, e))

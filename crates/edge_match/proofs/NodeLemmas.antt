-- The nodes of stubs: each as often as its degree.
use Rattle.std.proofs.Common.{◌≡◌, ℕ, zero, suc, ◌+◌, ◌<◌, ◌≤◌, false, true, cond, ◌==◌, List, [], ◌∷◌, length, replicate, get_or, All, count_by, refl, ap, ◌∙◌, arith}
use Rattle.std.proofs.lemmas.List.Sums.{sum_by-append}
use Rattle.std.proofs.lemmas.List.Folds.{sum_by-replicate}
use Rattle.std.proofs.lemmas.List.Elements.{All-nil, All-append, All-replicate, All-weaker}
use Rattle.edge_match.specs.Stubs.{stub_nodes}
use Rattle.edge_match.proofs.FreeSideLemmas.{test-same, test-other}

-- how often a number stands in a list
abbrev pub times : ℕ → List ℕ → ℕ
times v xs = count_by (λ x. x == v) xs

times-replicate_other : (n x v : ℕ) → (x == v) ≡ false → times v (replicate n x) ≡ 0
times-replicate_other n x v differ = sum_by-replicate (λ y. cond (y == v) 1 0) n x ∙ rw differ (omega arith)

times-replicate_same : (n x v : ℕ) → (x == v) ≡ true → times v (replicate n x) ≡ n
times-replicate_same n x v same = sum_by-replicate (λ y. cond (y == v) 1 0) n x ∙ rw same (omega arith)

times-stub_nodes_below : (v first : ℕ) (degrees : List ℕ) → v < first → times v (stub_nodes first degrees) ≡ 0
unfolding stub_nodes
times-stub_nodes_below v first [] lt = refl
times-stub_nodes_below v first (d ∷ ds) lt =
    sum_by-append (λ x. cond (x == v) 1 0) (replicate d first) (stub_nodes (first + 1) ds)
    ∙ omega (arith, times-replicate_other d first v (test-other first v (λ same. omega arith)), times-stub_nodes_below v (first + 1) ds (omega arith))

-- a node has as many stubs as its degree
pub times-stub_nodes : (first : ℕ) (degrees : List ℕ) (i : ℕ) → i < length degrees
    → times (first + i) (stub_nodes first degrees) ≡ get_or degrees i 0
unfolding stub_nodes
times-stub_nodes first [] i lt = absurd (omega arith)
times-stub_nodes first (d ∷ ds) zero lt =
    sum_by-append (λ x. cond (x == first + 0) 1 0) (replicate d first) (stub_nodes (first + 1) ds)
    ∙ omega (arith, times-replicate_same d first (first + 0) (test-same first (first + 0) (omega arith)), times-stub_nodes_below (first + 0) (first + 1) ds (omega arith))
times-stub_nodes first (d ∷ ds) (suc i) lt =
    let next : first + suc i ≡ first + 1 + i = omega arith in
    let rest = ap (λ v. times v (stub_nodes (first + 1) ds)) next ∙ times-stub_nodes (first + 1) ds i (omega arith) in
    sum_by-append (λ x. cond (x == first + suc i) 1 0) (replicate d first) (stub_nodes (first + 1) ds)
    ∙ omega (arith, times-replicate_other d first (first + suc i) (test-other first (first + suc i) (λ same. omega arith)), rest)

abbrev pub IsBetween : ℕ → ℕ → ℕ → Type 0
IsBetween first n v = (first ≤ v) × (v < first + n)

pub All-stub_nodes : (first : ℕ) (degrees : List ℕ)
    → All (IsBetween first (length degrees)) (stub_nodes first degrees)
unfolding stub_nodes
All-stub_nodes first [] = All-nil (IsBetween first 0)
All-stub_nodes first (d ∷ ds) =
    let here = IsBetween first (suc (length ds)) in
    let wider = λ (v : ℕ) (between : IsBetween (first + 1) (length ds) v). let low : first ≤ v = omega arith in let high : v < first + suc (length ds) = omega arith in let both : here v = (low, high) in both in
    let le : first ≤ first = omega arith in
    let lt : first < first + suc (length ds) = omega arith in
    let both : here first = (le, lt) in
    All-append here (replicate d first) (stub_nodes (first + 1) ds) (All-replicate here d first both)
    (All-weaker (IsBetween (first + 1) (length ds)) here wider (stub_nodes (first + 1) ds) (All-stub_nodes (first + 1) ds))

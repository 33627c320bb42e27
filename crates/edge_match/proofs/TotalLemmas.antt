-- The degrees of a side add up to its total.
use Rattle.std.proofs.Common.{◌≡◌, ℕ, zero, suc, ◌+◌, ◌*◌, ◌^◌, ◌<◌, ◌≤◌, Bool, true, false, cond, ◌==◌, List, sum, inl, inr, refl, ap, sym, ◌∙◌, arith}
use Rattle.std.specs.List.{range_with_len, sum_by}
use Rattle.std.proofs.Math.Nat.{mul-le-mul_left}
use Rattle.std.proofs.lemmas.Bool.{cases_eq}
use Rattle.std.proofs.lemmas.Bool.Decides.{nat_tests}
use Rattle.std.proofs.lemmas.List.Sums.{sum-map}
use Rattle.seeded_draw.specs.Draw.{word, stream_of, pick_of}
use Rattle.gm_config.specs.Config.{ConfigValue}
use Rattle.edge_match.specs.declared.config_sides.Side.{Side}
use Rattle.edge_match.specs.ConfigSides.{opposite, is_free, side_count}
use Rattle.edge_match.specs.DrawnDegrees.{pick_tag, table_degrees, table_total, side_degrees, side_total}
use Rattle.edge_match.specs.FreeSide.{picked_degree, picked_degrees}
use Rattle.edge_match.proofs.FreeSideLemmas.{picked_degree-more, test-same, test-other}
use Rattle.seeded_draw.proofs.WordLemmas.{word-below}
use Rattle.edge_match.proofs.PlaceLemmas.{sum_by-nothing, sum_by-plus, count_by-one}

test-true : (a b : ℕ) → (a == b) ≡ true → a ≡ b
test-true a b same = grind (arith, nat_tests)

-- a word picks a number below m
pub pick-below : (w m : ℕ) → w < 2 ^ 64 → 0 < m → pick_of w m < m
pick-below w m small some =
    let product : m * (w + 1) ≤ m * 2 ^ 64 = mul-le-mul_left m (omega arith) in
    omega (arith, product)

-- each stub picks one node
sum_by-picked_degree : (seed stream nodes stubs : ℕ) → 0 < nodes
    → sum_by (picked_degree seed stream nodes stubs) (range_with_len 0 nodes) ≡ stubs
sum_by-picked_degree seed stream nodes zero some = sum_by-nothing (picked_degree seed stream nodes 0) 0 nodes (λ i _ _. refl)
sum_by-picked_degree seed stream nodes (suc stubs) some =
    let pick = pick_of (word seed stream stubs) nodes in
    let one = count_by-one (λ place. pick == place) nodes pick (pick-below (word seed stream stubs) nodes (word-below seed stream stubs) some) (test-same pick pick refl) (λ i lt same. sym (test-true pick i same)) in
    let next : suc stubs ≡ stubs + 1 = omega arith in
    let more = sum_by-plus (picked_degree seed stream nodes stubs) (λ place. cond (pick == place) 1 0) (picked_degree seed stream nodes (suc stubs)) 0 nodes
    (λ place. ap (λ k. picked_degree seed stream nodes k place) next ∙ picked_degree-more seed stream nodes stubs place) in
    more ∙ omega (arith, one, sum_by-picked_degree seed stream nodes stubs some)

sum-picked_degrees : (seed stream nodes stubs : ℕ) → sum (picked_degrees seed stream nodes stubs) ≡ cond (nodes == 0) 0 stubs
sum-picked_degrees seed stream nodes stubs =
    elim (cases_eq nodes 0) [
      | inl none ↦ rw none refl
      | inr some ↦ rw (test-other nodes 0 some) (sum-map (picked_degree seed stream nodes stubs) (range_with_len 0 nodes) ∙ sum_by-picked_degree seed stream nodes stubs (omega arith))
    ]

sum-cond : (b : Bool) (xs ys : List ℕ) (m n : ℕ) → sum xs ≡ m → sum ys ≡ n → sum (cond b xs ys) ≡ cond b m n
sum-cond true xs ys m n first second = first
sum-cond false xs ys m n first second = second

-- the degrees of a side add up to its total
pub sum-side_degrees : (config : ConfigValue) (seed c : ℕ) (side : Side) → sum (side_degrees config seed c side) ≡ side_total config seed c side
sum-side_degrees config seed c side =
    sum-cond (is_free config c side) _ (table_degrees config seed c side) _ _
    (sum-picked_degrees seed (stream_of (pick_tag side) c 0) (side_count config c side) (table_total config seed c (opposite side)))
    refl

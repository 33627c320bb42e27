-- The conjuncts of a rule, put into a query one after another.
use Rattle.std.proofs.Common.{◌≡◌, ℕ, suc, ◌+◌, ◌<◌, ◌≤◌, true, List, [], ◌∷◌, ◌++◌, length, map, take, slice_index_or, sym, ap, ◌∙◌, arith}
use Rattle.std.specs.List.{range_with_len, list_all}
use Rattle.std.proofs.lemmas.List.{append_assoc, take_more, length-take-le}
use Rattle.sel_algebra.specs.declared.vocabulary.Class.{Class}
use Rattle.sel_algebra.specs.declared.vocabulary.Shape.{Shape}
use Rattle.gm_config.specs.declared.workload_rules.Workload.{Workload}
use Rattle.skeletons.specs.Skeleton.{HasSkeleton, variables_of, ends_of}
use Rattle.sel_graph.specs.Moves.{ReachValue}
use Rattle.query_terms.specs.Values.{ConjunctValue, differ, occurs}
use Rattle.query_terms.specs.Building.{Building}
use Rattle.query_draw.specs.declared.legs.Leg.{Leg}
use Rattle.query_draw.specs.Laws.{ends_in}
use Rattle.query_draw.specs.Query.{heads_of}
use Rattle.query_draw.specs.Drawn.{Words, drawn_conjunct, drawn_conjuncts, rule_legs}
use Rattle.query_draw.proofs.RuleLemmas.{length-rule_legs, length-drawn_conjuncts, ends_from}
use Rattle.query_draw.proofs.HeadLemmas.{heads_are, heads_occur}

-- the conjuncts of legs, with one more
conjuncts_snoc : (r : ReachValue) (w : Workload) (d : Words) (shape : Shape) (k i j : ℕ) (legs : List Leg) (leg : Leg) → j ≡ i + length legs
    → drawn_conjuncts r w d shape k i (legs ++ leg ∷ []) ≡ drawn_conjuncts r w d shape k i legs ++ drawn_conjunct r w d shape k j leg ∷ []
conjuncts_snoc r w d shape k i j [] leg at = let same : i ≡ j = omega (arith, at) in ap (λ n. drawn_conjunct r w d shape k n leg ∷ []) same
conjuncts_snoc r w d shape k i j (x ∷ legs) leg at =
    ap (λ cs. drawn_conjunct r w d shape k i x ∷ cs) (conjuncts_snoc r w d shape k (suc i) j legs leg (omega (arith, at)))

pub conjuncts_more : (r : ReachValue) (w : Workload) (d : Words) (shape : Shape) (k i : ℕ) (legs : List Leg) (e : Leg) → i < length legs
    → drawn_conjuncts r w d shape k 0 (take (i + 1) legs) ≡ drawn_conjuncts r w d shape k 0 (take i legs) ++ drawn_conjunct r w d shape k i (slice_index_or legs i e) ∷ []
conjuncts_more r w d shape k i legs e lt =
    let long = length-take-le i legs (omega (arith, lt)) in
    ap (drawn_conjuncts r w d shape k 0) (take_more legs i e lt) ∙ conjuncts_snoc r w d shape k 0 i (take i legs) (slice_index_or legs i e) (omega (arith, long))

-- one more of conjuncts that are put in
pub conjuncts_put-more : (b now new : Building) (xs ys : List ConjunctValue) (x : ConjunctValue) → now ≡ record b { conjuncts = b.conjuncts ++ xs; taken = now.taken }
    → new ≡ record now { conjuncts = now.conjuncts ++ x ∷ []; taken = new.taken } → ys ≡ xs ++ x ∷ [] → new ≡ record b { conjuncts = b.conjuncts ++ ys; taken = new.taken }
conjuncts_put-more b now new xs ys x first then all =
    then ∙ ((λ i. record (first i) { conjuncts = (first i).conjuncts ++ x ∷ []; taken = new.taken })
    ∙ (λ i. record b { conjuncts = (append_assoc b.conjuncts xs (x ∷ []) ∙ ap (λ z. b.conjuncts ++ z) (sym all)) i; taken = new.taken }))

-- ---- a whole rule

-- what is true of the conjuncts of a rule and of its heads
pub record IsWhole (shape : Shape) (k n : ℕ) (cs : List ConjunctValue) : Type 0 where
  pub some : 0 < length cs
  pub differ : differ (heads_of shape k n) ≡ true
  pub occur : list_all (occurs cs) (heads_of shape k n) ≡ true

pub rule_whole : (r : ReachValue) (w : Workload) (d : Words) (shape : Shape) (class : Class) (k t n : ℕ) (legs : List Leg) (cs : List ConjunctValue) → HasSkeleton shape k → n ≤ 4 → n ≤ variables_of shape k
    → legs ≡ rule_legs r w d shape class k t → cs ≡ drawn_conjuncts r w d shape k 0 legs → IsWhole shape k n cs
rule_whole r w d shape class k t n legs cs has few within are put =
    let long : length legs ≡ k = ap length are ∙ length-rule_legs r w d shape class k t has in
    let all : length cs ≡ k = ap length put ∙ (length-drawn_conjuncts r w d shape k 0 legs ∙ long) in
    let ends : ends_in cs ≡ map (ends_of shape k) (range_with_len 0 k) = ap ends_in put ∙ (ends_from r w d shape k 0 legs ∙ ap (λ m. map (ends_of shape k) (range_with_len 0 m)) long) in
    let heads = heads_are shape k n has few within in
    record { some = omega (arith, all, has.some); differ = heads.differ; occur = heads_occur shape k n cs heads ends }

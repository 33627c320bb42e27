-- Each configuration has its edges, from any constraint on.
use Rattle.std.proofs.Common.{◌≡◌, ◌∙◌, ℕ, zero, suc, ◌+◌, ◌<◌, ◌≤◌, Bool, true, false, cond, ◌==◌, List, [], ◌++◌, length, None, All, refl, sym, subst, arith, append_assoc, append-nil}
use Rattle.std.proofs.lemmas.List.Elements.{All-append}
use Rattle.graph_text.specs.declared.graphs.Triple.{Triple}
use Rattle.graph_text.specs.EdgesText.{IsInRange}
use Rattle.gm_config.specs.Config.{ConfigValue, IsConfig}
use Rattle.edge_match.specs.declared.config_sides.Side.{Side}
use Rattle.edge_match.specs.declared.config_sides.Side.TheVariants.{Out, In}
use Rattle.edge_match.specs.StubLimit.{stubs_most}
use Rattle.edge_match.specs.ConfigSides.{opposite, label_at, is_free, side_first, side_count}
use Rattle.edge_match.specs.DrawnDegrees.{table_total, side_degrees, side_stubs}
use Rattle.edge_match.specs.Limit.{first_side_over, IsWithinLimit}
use Rattle.edge_match.specs.AllEdges.{AreEdgesOf, AreEdgesBefore}
use Rattle.edge_match.proofs.StubLemmas.{length-stub_nodes}
use Rattle.edge_match.proofs.SideLemmas.{is_free-opposite, table_total-within}
use Rattle.edge_match.proofs.TotalLemmas.{sum-side_degrees}
use Rattle.edge_match.proofs.AllEdgesLemmas.{AreEdgesBefore-more}
use Rattle.edge_match.proofs.RangeLemmas.{IsInRange-AreEdgesOf}
use Rattle.edge_match.proofs.OrderLemmas.{IsMatching-some}

-- a free side has no more stubs than the other one
within_free : (free none : Bool) (own other most : ℕ) → (free ≡ true → other ≤ most) → (free ≡ false → own ≤ most) → cond free (cond none 0 other) own ≤ most
within_free true true own other most free drawn = omega arith
within_free true false own other most free drawn = free refl
within_free false none own other most free drawn = drawn refl

module _ (config : ConfigValue) (seed : ℕ) (rules : IsConfig config) where
  few_stubs : (c : ℕ) (side : Side) → c < length config.constraints → first_side_over config seed c ≡ None → length (side_stubs config seed c side).nodes ≤ stubs_most
  few_stubs c side known none =
      let count = length-stub_nodes (side_first config c side) (side_degrees config seed c side) ∙ sum-side_degrees config seed c side in
      subst (λ (n : ℕ). n ≤ stubs_most) (sym count)
      (within_free (is_free config c side) (side_count config c side == 0) (table_total config seed c side) (table_total config seed c (opposite side)) stubs_most
      (λ free. table_total-within config seed c (opposite side) none (is_free-opposite config c side rules known free))
      (λ drawn. table_total-within config seed c side none drawn))

  -- a constraint has edges where no side has too many stubs
  pub AreEdgesOf-some : (c : ℕ) → c < length config.constraints → first_side_over config seed c ≡ None
      → (edges : List Triple) × AreEdgesOf config seed c edges × All IsInRange edges
  AreEdgesOf-some c known none =
      let own =
      IsMatching-some (side_stubs config seed c Out) (side_stubs config seed c In) (label_at config c)
      (omega (arith, few_stubs c Out known none)) (omega (arith, few_stubs c In known none)) in
      (own.0, own.1, IsInRange-AreEdgesOf config seed c own.0 rules known own.1)

  -- edges of some constraints, and those of the next n
  pub AreEdgesBefore-next : (c n : ℕ) (before : List Triple) → IsWithinLimit config seed → c + n ≤ length config.constraints → AreEdgesBefore config seed c before
      → (later : List Triple) × AreEdgesBefore config seed (c + n) (before ++ later) × All IsInRange later
  AreEdgesBefore-next c zero before within known edges =
      let same : c + 0 ≡ c = omega arith in ([], rw (append-nil before, same) edges, λ k d below. absurd (omega arith))
  AreEdgesBefore-next c (suc n) before within known edges =
      let rest = AreEdgesBefore-next c n before within (omega arith) edges in
      let own = AreEdgesOf-some (c + n) (omega arith) (within (c + n) (omega arith)) in
      let same : c + suc n ≡ c + n + 1 = omega arith in (
        rest.0 ++ own.0,
        rw (same, ← append_assoc before rest.0 own.0) (AreEdgesBefore-more config seed (c + n) (before ++ rest.0) own.0 rest.1 own.1),
        All-append IsInRange rest.0 own.0 rest.2 own.2,
      )

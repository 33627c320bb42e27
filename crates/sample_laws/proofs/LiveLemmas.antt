-- The queries of the sample.
use Rattle.std.proofs.Common.{◌≡◌, ℕ, true, refl}
use Rattle.std.specs.List.{list_any}
use Rattle.sel_algebra.specs.declared.vocabulary.Class.{Class}
use Rattle.sel_algebra.specs.declared.vocabulary.Class.TheVariants.{Constant, Linear, Quadratic}
use Rattle.sel_algebra.specs.declared.vocabulary.Shape.{Shape}
use Rattle.sel_algebra.specs.declared.vocabulary.Shape.TheVariants.{Chain, Star, Cycle, StarChain}
use Rattle.gm_config.specs.Sample.{sample_of}
use Rattle.sel_graph.specs.Runs.{can_run}
use Rattle.sel_graph.specs.Tests.{numbers_of}
use Rattle.walk_pick.specs.Candidates.{is_live_count}
use Rattle.query_draw.specs.Query.{reach_of, drawn_shape, drawn_class, has_query}

-- with some number of conjuncts in range each shape can have each class
some_count_is_live : (k : ℕ) (shape : Shape) (class : Class)
    → list_any (is_live_count (reach_of (sample_of k)) shape class) (numbers_of (sample_of k).workload.conjuncts) ≡ true
unfolding can_run
some_count_is_live k Chain Constant = refl
some_count_is_live k Chain Linear = refl
some_count_is_live k Chain Quadratic = refl
some_count_is_live k Star Constant = refl
some_count_is_live k Star Linear = refl
some_count_is_live k Star Quadratic = refl
some_count_is_live k Cycle Constant = refl
some_count_is_live k Cycle Linear = refl
some_count_is_live k Cycle Quadratic = refl
some_count_is_live k StarChain Constant = refl
some_count_is_live k StarChain Linear = refl
some_count_is_live k StarChain Quadratic = refl

pub sample_has_query : (k seed number : ℕ) → has_query (sample_of k) seed number ≡ true
sample_has_query k seed number = some_count_is_live k (drawn_shape (sample_of k) seed number) (drawn_class (sample_of k) seed number)

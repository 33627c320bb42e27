-- The skeleton of a rule: how its k conjuncts join its variables. The definitions are total: they
-- give parts to every shape and every k.
--   conjuncts_most         the most conjuncts of a rule
--   second_most            the most conjuncts of a second path
--   SkeletonValue          a shape and a number of conjuncts
--   HasSkeleton shape k    the shape can have k conjuncts
--   upper_half k, lower_half k   half of k, rounded up and down
--   spine_of shape k       the conjuncts of the spine, a path from variable 0
--   second_of shape k      the conjuncts of the second path between the ends of the spine
--   arms_of shape k        the conjuncts that lead to a variable of their own
--   variables_of shape k   the variables
--   second_ends m n j      the ends of conjunct j of the n of a second path, after a spine of m
--   arm_start shape m j    the variable at which arm j starts, after a spine of m
--   later_ends shape m n j   the ends of conjunct j after the spine
--   ends_of shape k i      the variables at the two ends of conjunct i
--   PartsAreAll            the parts together are all conjuncts
--   SpineIsInRange         the spine has a conjunct, and no more than a rule may have
--   SecondIsInRange        a second path is within its limit
--   ArmsStartAtTheSpine    the first variable of an arm is one of the spine
use Rattle.std.specs.Prelude.{◌≡◌, ℕ, ◌+◌, ◌-◌, ◌/◌, ◌%◌, ◌<◌, ◌≤◌, ◌==◌, nat_lt, if◌then◌else◌}
use Rattle.sel_algebra.specs.declared.vocabulary.Shape.{Shape}
use Rattle.sel_algebra.specs.declared.vocabulary.Shape.TheVariants.{Chain, Star, Cycle, StarChain}

-- the most conjuncts of a rule
abbrev pub conjuncts_most : ℕ
conjuncts_most = 8

-- the most conjuncts of a second path
abbrev pub second_most : ℕ
second_most = 4

-- a shape and a number of conjuncts
pub record SkeletonValue : Type 0 where
  pub shape : Shape
  pub count : ℕ

-- the shape can have k conjuncts
pub record HasSkeleton (shape : Shape) (k : ℕ) : Type 0 where
  pub some : 1 ≤ k
  pub two_paths : shape ≡ Cycle → 2 ≤ k
  pub few : k ≤ conjuncts_most

-- half of k, rounded up
abbrev pub upper_half : ℕ → ℕ
upper_half k = (k + 1) / 2

-- half of k, rounded down
abbrev pub lower_half : ℕ → ℕ
lower_half k = k / 2

-- the conjuncts of the spine
abbrev pub spine_of : Shape → ℕ → ℕ
spine_of Chain k = k
spine_of Star k = 1
spine_of Cycle k = upper_half k
spine_of StarChain k = upper_half k

-- the conjuncts of the second path
abbrev pub second_of : Shape → ℕ → ℕ
second_of Cycle k = lower_half k
second_of shape k = 0

-- the conjuncts that lead to a variable of their own
abbrev pub arms_of : Shape → ℕ → ℕ
arms_of Chain k = 0
arms_of Star k = k - 1
arms_of Cycle k = 0
arms_of StarChain k = lower_half k

-- the variables
abbrev pub variables_of : Shape → ℕ → ℕ
variables_of Cycle k = k
variables_of shape k = k + 1

-- from variable 0 through new variables to the end of the spine
abbrev pub second_ends : ℕ → ℕ → ℕ → ℕ × ℕ
second_ends m n j = (if j == 0 then 0 else m + j, if j + 1 == n then m else m + j + 1)

-- the arms of a star-chain start at the variables of its spine in turn, all others at variable 0
abbrev pub arm_start : Shape → ℕ → ℕ → ℕ
arm_start StarChain m j = j % (m + 1)
arm_start shape m j = 0

-- the ends of conjunct j after the spine: of the second path of a cycle, else of arm j
abbrev pub later_ends : Shape → ℕ → ℕ → ℕ → ℕ × ℕ
later_ends Cycle m n j = second_ends m n j
later_ends shape m n j = (arm_start shape m j, m + 1 + j)

-- the ends of conjunct i: the spine first
abbrev pub ends_of : Shape → ℕ → ℕ → ℕ × ℕ
ends_of shape k i =
    if nat_lt i (spine_of shape k) then (i, i + 1)
    else later_ends shape (spine_of shape k) (second_of shape k) (i - spine_of shape k)

-- the spine, the second path and the arms are together all conjuncts
abbrev pub PartsAreAll : Type 0
PartsAreAll =
    (shape : Shape) → (k : ℕ) → HasSkeleton shape k → spine_of shape k + second_of shape k + arms_of shape k ≡ k

-- the spine has a conjunct, and no more than a rule may have
abbrev pub SpineIsInRange : Type 0
SpineIsInRange =
    (shape : Shape) (k : ℕ) → HasSkeleton shape k → (1 ≤ spine_of shape k) × (spine_of shape k ≤ conjuncts_most)

-- a second path is within its limit
abbrev pub SecondIsInRange : Type 0
SecondIsInRange = (shape : Shape) (k : ℕ) → HasSkeleton shape k → second_of shape k ≤ second_most

-- the first variable of an arm is one of the spine, whose last is numbered as the spine is long
abbrev pub ArmsStartAtTheSpine : Type 0
ArmsStartAtTheSpine =
    (shape : Shape) (k j : ℕ) → HasSkeleton shape k → j < arms_of shape k
    → (ends_of shape k (spine_of shape k + second_of shape k + j)).0 ≤ spine_of shape k

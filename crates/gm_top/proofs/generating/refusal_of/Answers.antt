use Rattle.std.proofs.Common.{inr}
use Rattle.gm_top.proofs.generating.refusal_of.Goals as goal

pub returns-in-Some-2 : goal.returns-in-Some-2
returns-in-Some-2 c =
    inr (
      c.in-Some-2.over,
      rw (← c.config-config.ensures, ← c.seed-seed.ensures) (rw c.in-None.is at c.first_missing.ensures),
      rw (← c.config-config.ensures, ← c.seed-seed.ensures) (rw c.in-Some-2.is at c.in_ok-over.ensures),
      c.from-in-Some-2.ensures,
    )

pub returns-in-None-2 : goal.returns-in-None-2
returns-in-None-2 c = (
  rw (← c.config-config.ensures, ← c.seed-seed.ensures) (rw c.in-None.is at c.first_missing.ensures),
  rw (← c.config-config.ensures, ← c.seed-seed.ensures) (rw c.in-None-2.is at c.in_ok-over.ensures),
)

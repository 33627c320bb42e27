-- Counts that a source or a folder keeps: of bytes given, of calls and of faults.
--   raised count n            the count after n more, which stops at the greatest u64
--   Rose before now           a count of faults rose in a call
--   HasCause before now r     a call failed only where its count of faults rose
use Rattle.std.specs.Prelude.{◌≡◌, ℕ, ◌+◌, ◌-◌, ◌^◌, ◌≤◌, min, max, Result, OnOk, OnErr}

-- the count after n more: it stops at the greatest u64, and never falls
abbrev pub raised : ℕ → ℕ → ℕ
raised count n = max count (min (count + n) (2 ^ 64 - 1))

-- the count is greater now than before, or stands at the greatest u64
abbrev pub Rose : ℕ → ℕ → Type 0
Rose before now = min (before + 1) (2 ^ 64 - 1) ≤ now

-- the count of faults never falls, a failed call raised it, and one that was done left it
pub record HasCause {T E : Type 0} (before now : ℕ) (result : Result T E) : Type 0 where
  pub later : before ≤ now
  pub failed : OnErr result (Rose before now)
  pub kept : OnOk result (now ≡ before)

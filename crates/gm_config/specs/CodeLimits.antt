-- The limits of a range as the code has them, and as the rules have them.
use Rattle.gm_config.specs.Limits.{RangeLimits}
use Rattle.gm_config.specs.declared.limits.RangeLimits.{RangeLimits as CodeLimits}

-- the limits of a range, with the name as its bytes
abbrev pub seen : CodeLimits → RangeLimits
seen limits = record { name = limits.name.now; least = limits.least; most = limits.most }

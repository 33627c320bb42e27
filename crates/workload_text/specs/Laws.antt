-- The laws of workload texts.
--   ValuesAreReadBack     the text of a value that keeps the rules breaks none, and says this value
--   OneReading            a text has no two readings
--   ReadingIsVerdict      the readings of a text are the values that it is said to have
--   ReadWhereUnbroken     a text has a reading exactly where no line breaks a rule
use Rattle.std.specs.Prelude.{◌≡◌, ◌↔◌, ℕ, List, Ok}
use Rattle.workload_text.specs.Values.{WorkValue, IsWork}
use Rattle.workload_text.specs.Lines.{work_text, IsReading}
use Rattle.workload_text.specs.Rules.{verdict_of, IsFirstBroken}

-- the text of a value that keeps the rules breaks none, and says this value
abbrev pub ValuesAreReadBack : Type 0
ValuesAreReadBack = (v : WorkValue) → IsWork v → verdict_of (work_text v) ≡ Ok v

-- a text has no two readings
abbrev pub OneReading : Type 0
OneReading = (text : List ℕ) (v w : WorkValue) → IsReading text v → IsReading text w → v ≡ w

-- the readings of a text are the values that it is said to have
abbrev pub ReadingIsVerdict : Type 0
ReadingIsVerdict = (text : List ℕ) (v : WorkValue) → IsReading text v ↔ (verdict_of text ≡ Ok v)

-- a text has a reading exactly where no line breaks a rule
abbrev pub ReadWhereUnbroken : Type 0
ReadWhereUnbroken = (text : List ℕ) → ((v : WorkValue) × IsReading text v) ↔ ((line rule : ℕ) → IsFirstBroken text line rule → ⊥)

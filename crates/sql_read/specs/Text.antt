-- A SQL text and its reading.
use Rattle.std.specs.Prelude.{◌≡◌, ℕ, ◌+◌, ◌-◌, max, IsTrue, ◌==◌, if◌then◌else◌, List, [], ◌∷◌}
use Rattle.sql_read.specs.Tokens.{Token, HasSqlTokens}
use Rattle.sql_read.specs.Grammar.{Reading, tokens_of_text, is_full, said}
use Rattle.sql_read.specs.Conditions.{holds}

-- the text has tokens that say the reading, by the grammar, and the reading meets the conditions
pub record IsSql (bytes : List ℕ) (reading : Reading) : Type 0 where
  pub tokens : List Token
  pub cut : HasSqlTokens bytes tokens
  pub says : said tokens ≡ tokens_of_text reading
  pub full : IsTrue (is_full reading)
  pub holds : IsTrue (holds reading)

abbrev pub HasNoReading : List ℕ → Type 0
HasNoReading bytes = (reading : Reading) → IsSql bytes reading → ⊥

-- no text has two readings
abbrev pub ReadingIsOne : Type 0
ReadingIsOne = (bytes : List ℕ) (x y : Reading) → IsSql bytes x → IsSql bytes y → x ≡ y

-- the depth of parentheses after a byte: one more at `(`, one less at `)` but never below 0
abbrev pub depth_after : ℕ → ℕ → ℕ
depth_after depth byte = if byte == 40 then depth + 1 else (if byte == 41 then depth - 1 else depth)

abbrev pub depth_from : ℕ → List ℕ → ℕ
depth_from depth [] = depth
depth_from depth (b ∷ bs) = max depth (depth_from (depth_after depth b) bs)

-- the greatest depth, counted over all bytes
abbrev pub deepest : List ℕ → ℕ
deepest bytes = depth_from 0 bytes

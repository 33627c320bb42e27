-- A text whose tokens have no reading, or one that doesn't meet the conditions, has none.
use Rattle.std.proofs.Common.{◌≡◌, ℕ, List, false, sym, ap, subst, ◌∙◌, true≢false}
use Rattle.gm_text.specs.declared.lists.Span.{Span}
use Rattle.token_text.specs.Tokens.{HasTokens}
use Rattle.token_text.proofs.TokenLemmas.{tokens_are_one}
use Rattle.sql_read.specs.declared.lists.Lists.{Lists}
use Rattle.sql_read.specs.declared.tokens.Token.{Token as CodeToken}
use Rattle.sql_read.specs.Tokens.{first}
use Rattle.sql_read.specs.Grammar.{Reading, said, tokens_of_text}
use Rattle.sql_read.specs.View.{tokens_view, heard}
use Rattle.sql_read.specs.Absent.{NoReading}
use Rattle.sql_read.specs.Kept.{reading_in}
use Rattle.sql_read.specs.Parsed.{kept_of, ReadingAt}
use Rattle.sql_read.specs.Conditions.{holds}
use Rattle.sql_read.specs.Text.{IsSql, HasNoReading}
use Rattle.sql_read.proofs.GrammarLemmas.{readings_are_one}

module _ (text copy : List ℕ) (tokens : List CodeToken) (is : copy ≡ text) (cut : HasTokens first copy (tokens_view tokens)) where
  heard_says : (r : Reading) → IsSql text r → heard tokens ≡ tokens_of_text r
  heard_says r s =
      ap said (tokens_are_one first text (tokens_view tokens) s.tokens (subst (λ (bytes : List ℕ). HasTokens first bytes (tokens_view tokens)) is cut) s.cut) ∙ s.says

  pub unread : NoReading (heard tokens) → HasNoReading text
  unread none r s = none r s.full (heard_says r s)

  pub unheld : (lists : Lists) (last : Span) → ReadingAt lists (heard tokens) last → holds (reading_in last (kept_of lists)) ≡ false → HasNoReading text
  unheld lists last at h r s =
      let same = readings_are_one (reading_in last (kept_of lists)) r at.full s.full (sym at.says ∙ heard_says r s) in
      true≢false (sym s.holds ∙ ap holds (sym same) ∙ h)

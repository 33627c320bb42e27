use Rattle.std.proofs.Common.{ap, sym, ◌∙◌}
use Rattle.token_text.proofs.TokenLemmas.{tokens_are_one}
use Rattle.sql_read.specs.Tokens.{first}
use Rattle.sql_read.specs.Grammar.{said}
use Rattle.sql_read.proofs.GrammarLemmas.{readings_are_one}
use Rattle.sql_read.proofs.laws.reading_is_one.Goals as goal

pub returns : goal.returns
returns c bytes x y a b =
    readings_are_one x y a.full b.full (sym a.says ∙ ap said (tokens_are_one first bytes a.tokens b.tokens a.cut b.cut) ∙ b.says)

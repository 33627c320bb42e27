use Rattle.std.proofs.Common.{sym, ◌∙◌}
use Rattle.sql_read.proofs.TokenLemmas.{number_fits, number_value, number_large}
use Rattle.sql_read.proofs.tokens.read_number.Goals as goal

pub returns-in-Ok : goal.returns-in-Ok
returns-in-Ok c =
    let read = c.in-Value.ensures in
    (number_fits _ _ read.fits read.value c.in-Ok.ensures.0, c.in-Ok.ensures.1 ∙ sym (number_value _ _ read.fits read.value))

pub returns-in-Err : goal.returns-in-Err
returns-in-Err c = let read = c.in-Value.ensures in number_large _ _ read.fits read.value c.in-Err.ensures

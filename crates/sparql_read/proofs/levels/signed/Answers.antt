use Rattle.std.proofs.Common.{refl}
use Rattle.sparql_read.specs.Grammar.{Star, Plus, Opt}
use Rattle.sparql_read.proofs.PlaceLemmas.{placed_star, placed_plus, placed_opt}
use Rattle.sparql_read.proofs.levels.signed.Goals as goal

pub returns-in-Asterisk : goal.returns-in-Asterisk
returns-in-Asterisk c = rw c.in-Asterisk.is (λ below all p d. (Star p, (λ fs f. refl), placed_star below all p _ d))

pub returns-in-PlusSign : goal.returns-in-PlusSign
returns-in-PlusSign c = rw c.in-PlusSign.is (λ below all p d. (Plus p, (λ fs f. refl), placed_plus below all p _ d))

pub returns-in-Question : goal.returns-in-Question
returns-in-Question c = rw c.in-Question.is (λ below all p d. (Opt p, (λ fs f. refl), placed_opt below all p _ d))

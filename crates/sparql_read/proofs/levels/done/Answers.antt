use Rattle.std.proofs.Common.{◌≡◌, [], arith}
use Rattle.std.proofs.lemmas.Grind.{common_steps}
use Rattle.sparql_read.proofs.LevelLemmas.{done_slash, done_bar, done_close, done_stop}
use Rattle.sparql_read.proofs.levels.done.Goals as goal

pub returns-in_ok-seq-in-Slash-clause-is : goal.returns-in_ok-seq-in-Slash-clause-is
returns-in_ok-seq-in-Slash-clause-is c =
    rw (c.in-Slash.is, c.with_seq-levels.ensures) (λ below fs f m x. done_slash _ _ _ _ _ _ _ _ _ _ x c.in_ok-seq-in-Slash.ensures.is)

pub returns-in_ok-alt-in-Bar-clause-is : goal.returns-in_ok-alt-in-Bar-clause-is
returns-in_ok-alt-in-Bar-clause-is c =
    rw (c.in-Bar.is, c.with_alt-levels.ensures) (λ below fs f m x. done_bar _ _ _ _ _ _ _ _ _ _ x c.in_ok-alt-in-Bar.ensures.is)

pub returns-in-Some-clause-is : goal.returns-in-Some-clause-is
returns-in-Some-clause-is c =
    rw c.in-Close.is (λ below fs f m x. done_close _ _ _ _ _ _ _ _ _ _ x _ _ c.in-Some.ensures.items c.in_ok-path-in-Close.ensures.is)

pub returns-in-None-clause-is : goal.returns-in-None-clause-is
returns-in-None-clause-is c =
    let e : c.args.levels.now.outer.items ≡ [] = grind (arith, common_steps, c.in-None.ensures.cases) in
    let k : c.pop-in-Variable.new.self.items ≡ [] = grind (arith, common_steps, c.in-None.ensures.cases) in
    rw c.in-Variable.is (λ below fs f m x. done_stop _ _ _ _ _ _ _ _ _ _ x _ _ e k c.in_ok-path-in-Variable.ensures.is)

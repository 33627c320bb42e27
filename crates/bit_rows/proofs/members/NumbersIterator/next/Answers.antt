use Rattle.std.proofs.Common.{◌*◌, length, ap, arith, rules}
use Rattle.bit_rows.proofs.SetLemmas.{numbers_none, numbers_first}
use Rattle.bit_rows.proofs.members.NumbersIterator.next.Goals as goal

pub returns-in_default-clause-steps : goal.returns-in_default-clause-steps
returns-in_default-clause-steps g c =
    let none = numbers_none c.args.self.now.row.now c.args.self.now.from (32 * g.row.W) c.in_default.ensures.next in
    (none, none)

pub returns-clause-steps : goal.returns-clause-steps
returns-clause-steps g c = numbers_first c.args.self.now.row.now c.args.self.now.from c.in-Some.number (32 * g.row.W) c.in-Some.ensures.within c.in-Some.ensures.next

pub returns-clause-goes : goal.returns-clause-goes
returns-clause-goes g c =
    let steps = returns-clause-steps g c in
    record { on = λ finite. (search rules, search rules, omega (arith, ap length steps)); keeps = search rules; rests = search rules }

use Rattle.std.proofs.Common.{◌<◌, ◌≤◌, ℕ, ◌^◌, length, decimal, ap, arith}
use Rattle.std.proofs.lemmas.List.{length-append, length-drop}
use Rattle.std.proofs.lemmas.Fmt.{length-decimal-le}
use Rattle.gm_text.proofs.backward.BackwardText.put_number.Goals as goal

-- a number of 32 bits has at most ten digits
digits : (n : ℕ) → n < 2 ^ 32 → length (decimal n) ≤ 10
digits n small = length-decimal-le 10 n (omega arith) (omega (arith, small)) (omega (arith, small))

pub write_digits-self-inside-requires : goal.write_digits-self-inside-requires
write_digits-self-inside-requires g c =
    let few = digits c.args.number c.ranges.number.fits in
    let long = length-drop c.self.inside.from c.self.inside.bytes in
    let room = rw (← c.self.view_is) at c.requires in (
      omega (arith, few, long, room, ap (λ n. length (decimal n)) c.from.ensures, c.self.ranges, c.self.invariant),
      omega (arith, c.self.ranges, c.self.invariant),
    )

pub returns-clause-few : goal.returns-clause-few
returns-clause-few g c =
    let few = digits c.args.number c.ranges.number.fits in
    rw (c.write_digits-self-inside.ensures.written, length-append (decimal c.from.result) _, c.from.ensures, c.self.view_is) (omega (arith, few))

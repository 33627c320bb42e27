use Rattle.std.proofs.Common.{arith}
use Rattle.std.proofs.Math.Nat.{one-le-pow}
use Rattle.degree_table.proofs.WeightLemmas.{pow-degree}
use Rattle.degree_table.proofs.weights.zipf_weight.Goals as goal

pub pow-requires : goal.pow-requires
pow-requires c = rw (c.from.ensures, c.from-2.ensures) (omega (arith, pow-degree c.args.degree c.args.exponent c.requires.some c.requires.few c.requires.exponent))

pub nonzero_div-result : goal.nonzero_div-result
nonzero_div-result c = rw (c.pow.ensures, c.from.ensures) (one-le-pow c.from-2.result c.args.degree c.requires.some)

-- A random word is one of 64 bits.
use Rattle.std.proofs.Common.{ℕ, zero, suc, ◌-◌, ◌*◌, ◌/◌, ◌%◌, ◌^◌, ◌<◌, bit_xor, arith}
use Rattle.std.proofs.Math.Nat.{div-le_self}
use Rattle.std.proofs.lemmas.Nat.{or_lt, xor_lt}
use Rattle.rand_pcg.specs.Lcg.{Lcg, next}
use Rattle.rand_pcg.specs.Pcg.{multiplier_128, pcg64, output_xsl_rr}
use Rattle.seeded_draw.specs.Draw.{start, nth_word, word}

below_quotient : (n k : ℕ) → n < 2 ^ 64 → n / 2 ^ k < 2 ^ 64
below_quotient n k lt = omega (arith, div-le_self n (2 ^ k))

output-below : (state : ℕ) → state < 2 ^ 128 → output_xsl_rr state < 2 ^ 64
output-below state lt =
    let mixed = bit_xor (state / 2 ^ 64) (state % 2 ^ 64) in
    let turn = state / 2 ^ 122 in
    let high : state / 2 ^ 64 < 2 ^ 64 = omega arith in
    let low : state % 2 ^ 64 < 2 ^ 64 = omega arith in
    let back : mixed * 2 ^ ((64 - turn % 64) % 64) % 2 ^ 64 < 2 ^ 64 = omega arith in
    or_lt 64 _ _ (below_quotient mixed (turn % 64) (xor_lt 64 _ _ high low)) back

nth_word-below : (k : ℕ) (g : Lcg) → nth_word g k < 2 ^ 64
unfolding nth_word
nth_word-below zero g = output-below (next 128 multiplier_128 g).state (omega arith)
nth_word-below (suc k) g = nth_word-below k (pcg64 g).1

-- a word is one of 64 bits
pub word-below : (seed stream k : ℕ) → word seed stream k < 2 ^ 64
unfolding word
word-below seed stream k = nth_word-below k (start seed stream)

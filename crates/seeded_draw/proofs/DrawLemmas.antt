-- The words of a new generator, after a step, and after a jump.
use Rattle.std.proofs.Common.{◌≡◌, ℕ, zero, suc, ◌+◌, refl, ap, ◌∙◌, add-one, arith}
use Rattle.rand_pcg.specs.Lcg.{Lcg, advance, state_after}
use Rattle.rand_pcg.specs.Pcg.{multiplier_128, pcg64}
use Rattle.seeded_draw.specs.Draw.{start, nth_word, word}

-- a new generator has the words of its seed and stream
pub nth_word-start : (seed stream k : ℕ) → nth_word (start seed stream) k ≡ word seed stream k
unfolding word
nth_word-start seed stream k = refl

-- a step gives the word at place 0
pub nth_word-zero : (g left : Lcg) (w : ℕ) → (w, left) ≡ pcg64 g → w ≡ nth_word g 0
unfolding nth_word
nth_word-zero g left w step = ap (λ p. p.0) step

-- a step leaves the words from place 1 on
pub nth_word-left : (g left : Lcg) (w k : ℕ) → (w, left) ≡ pcg64 g → nth_word left k ≡ nth_word g (k + 1)
unfolding nth_word
nth_word-left g left w k step = rw add-one (ap (λ p. nth_word p.1 k) step)

-- a jump of k leaves the words from place k on
pub nth_word-advance : (k n : ℕ) (g : Lcg) → nth_word (advance 128 multiplier_128 k g) n ≡ nth_word g (k + n)
unfolding nth_word state_after
nth_word-advance zero n g = let same : n ≡ 0 + n = omega arith in ap (nth_word g) same
nth_word-advance (suc k) n g =
    let more : suc (k + n) ≡ suc k + n = omega arith in
    nth_word-advance k n (pcg64 g).1 ∙ ap (nth_word g) more

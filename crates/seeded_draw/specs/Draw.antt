-- Random words by their address, with no state between them.
--   start seed stream       the generator of a seed and a stream, before its first word
--   nth_word g k            the k-th word that a generator gives, counted from 0
--   word seed stream k      the k-th word of a seed and a stream, counted from 0
--   stream_of tag a b       the stream of a tag and two numbers
--   pick_of w m             the number below m that a word picks
use Rattle.std.specs.Prelude.{ℕ, zero, suc, ◌+◌, ◌*◌, ◌/◌, ◌^◌}
use Rattle.rand_pcg.specs.Lcg.{Lcg, started, increment_of}
use Rattle.rand_pcg.specs.Pcg.{multiplier_128, pcg64}

-- the generator PCG XSL RR 128/64 of a seed and a stream, before its first word
abbrev pub start : ℕ → ℕ → Lcg
start seed stream = started 128 multiplier_128 seed (increment_of 128 stream)

-- the k-th word that a generator gives, counted from 0: each step gives one, and the generator that is left
unfoldable pub nth_word : Lcg → ℕ → ℕ
nth_word g zero = (pcg64 g).0
nth_word g (suc k) = nth_word (pcg64 g).1 k

-- the k-th word of a seed and a stream, counted from 0
unfoldable pub word : ℕ → ℕ → ℕ → ℕ
word seed stream k = nth_word (start seed stream) k

-- the stream of a tag and two numbers, each in bits of its own
abbrev pub stream_of : ℕ → ℕ → ℕ → ℕ
stream_of tag a b = tag * 2 ^ 64 + a * 2 ^ 32 + b

-- the number below m that a word picks: the word, a part of 2 ^ 64, as the same part of m
abbrev pub pick_of : ℕ → ℕ → ℕ
pick_of w m = w * m / 2 ^ 64

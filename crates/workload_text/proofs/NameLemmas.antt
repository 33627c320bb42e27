use Rattle.std.proofs.Common.{◌≡◌, ℕ, Bool, true, false, List, [], ◌∷◌, ◌++◌, length, take, drop, arith, sym}
use Rattle.std.specs.List.{list_all, prefix_len}
use Rattle.std.proofs.Math.Seq.{take-append_seam, drop-append_seam}
use Rattle.gm_text.specs.Name.{is_name_byte, IsName}

-- bytes that pass a test, before one that doesn't
pub prefix_len-stop : (test : ℕ → Bool) (xs : List ℕ) (y : ℕ) (ys : List ℕ) → list_all test xs ≡ true → test y ≡ false
    → prefix_len test (xs ++ y ∷ ys) ≡ length xs
prefix_len-stop test [] y ys passes stops = grind arith
prefix_len-stop test (x ∷ xs) y ys passes stops = grind (arith, prefix_len-stop test xs y ys)

-- a name ends before the first byte that can't stand in a name
pub split-name : (bytes name more : List ℕ) (stop : ℕ) → IsName name → is_name_byte stop ≡ false → bytes ≡ name ++ stop ∷ more
    → (name ≡ take (prefix_len is_name_byte bytes) bytes) × (stop ∷ more ≡ drop (prefix_len is_name_byte bytes) bytes)
split-name bytes name more stop named stops whole =
    let passes : list_all is_name_byte name ≡ true = grind arith in
    rw (whole, prefix_len-stop is_name_byte name stop more passes stops)
    (sym (take-append_seam name (stop ∷ more)), sym (drop-append_seam name (stop ∷ more)))

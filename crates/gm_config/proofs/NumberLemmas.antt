-- A whole number that is read lies in the range that was asked for.
use Rattle.std.proofs.Common.{◌≡◌, ℕ, ◌≤◌, List, ◌&&◌, nat_le, Option, Some, None, arith}
use Rattle.std.proofs.lemmas.Bool.Decides.{nat_tests}
use Rattle.std.specs.Prelude.{if◌then◌else◌, option_and_then}
use Rattle.serde_json.specs.Data.{Data}
use Rattle.serde_json.specs.Find.{get}
use Rattle.gm_config.specs.Json.{whole, number, number_at}

within : (least most m n : ℕ) → (if nat_le least m && nat_le m most then Some m else None) ≡ Some n → (least ≤ n) × (n ≤ most)
within least most m n is = grind (arith, nat_tests)

within_number : (least most : ℕ) (o : Option ℕ) (n : ℕ) → option_and_then (λ m. if nat_le least m && nat_le m most then Some m else None) o ≡ Some n → (least ≤ n) × (n ≤ most)
within_number least most None n is = absurd (cc)
within_number least most (Some m) n is = within least most m n is

pub number-limits : (least most : ℕ) (d : Data) (n : ℕ) → number least most d ≡ Some n → (least ≤ n) × (n ≤ most)
number-limits least most d n is = within_number least most (whole d) n is

within_member : (least most : ℕ) (o : Option Data) (n : ℕ) → option_and_then (number least most) o ≡ Some n → (least ≤ n) × (n ≤ most)
within_member least most None n is = absurd (cc)
within_member least most (Some d) n is = number-limits least most d n is

pub number_at-limits : (name : List ℕ) (least most : ℕ) (d : Data) (n : ℕ) → number_at name least most d ≡ Some n → (least ≤ n) × (n ≤ most)
number_at-limits name least most d n is = within_member least most (get name d) n is

-- The number of a word.
use Rattle.std.proofs.Common.{◌≡◌, ℕ, ◌+◌, ◌*◌, ◌-◌, ◌<◌, ◌≤◌, ◌^◌, true, List, [], ◌∷◌, length, get_or, drop, sym, ap, ◌∙◌, arith, decimal}
use Rattle.std.proofs.lemmas.Bool.{and_parts}
use Rattle.std.specs.List.{list_all}
use Rattle.std.specs.Char.{is_ascii_digit, digit_value}
use Rattle.std.specs.Str.Parse.{digits_value_after}
use Rattle.std.proofs.lemmas.Bool.Decides.{nat_tests}
use Rattle.std.proofs.lemmas.List.{at_drop_more}
use Rattle.std.proofs.lemmas.Str.{digit_value_digit}
use Rattle.gm_text.specs.Decimal.{IsCanonical}
use Rattle.gm_text.proofs.DecimalLemmas.{digits_value_decimal}
use Rattle.workload_text.specs.Sofar.{number}

-- a decimal has the number of which it is written
pub number_is : (word : List ℕ) (n : ℕ) → word ≡ decimal n → n < 2 ^ 64 → number word ≡ n
number_is word n is small = ap number is ∙ digits_value_decimal n small

-- a canonical decimal has digits only
pub canonical-digits : (word : List ℕ) → IsCanonical word → list_all is_ascii_digit word ≡ true
canonical-digits word is = grind (arith, nat_tests)

-- more digits make no number less
le-digits_value_after : (n : ℕ) (digits : List ℕ) → n ≤ digits_value_after 10 n digits
le-digits_value_after n [] = omega arith
le-digits_value_after n (d ∷ digits) = omega (arith, le-digits_value_after (n * 10 + digit_value d) digits)

digit_low : (c : ℕ) → is_ascii_digit c ≡ true → 48 ≤ c
digit_low c is = grind (arith, nat_tests)

digit_high : (c : ℕ) → is_ascii_digit c ≡ true → c ≤ 57
digit_high c is = grind (arith, nat_tests)

digit_is : (c : ℕ) → 48 ≤ c → c ≤ 57 → digit_value c ≡ c - 48
digit_is c low high = omega (arith, digit_value_digit c (low, high))

-- the digit that stands next, and what is left after it
pub record NextDigit (word : List ℕ) (i byte value : ℕ) : Type 0 where
  pub low : 48 ≤ byte
  pub high : byte ≤ 57
  pub rest : list_all is_ascii_digit (drop (i + 1) word) ≡ true
  pub number : digits_value_after 10 value (drop i word) ≡ digits_value_after 10 (value * 10 + (byte - 48)) (drop (i + 1) word)
  pub least : value * 10 + (byte - 48) ≤ digits_value_after 10 value (drop i word)

pub next_digit : (word : List ℕ) (i byte value : ℕ) → i < length word → byte ≡ get_or word i 0 → list_all is_ascii_digit (drop i word) ≡ true → NextDigit word i byte value
next_digit word i byte value within is all =
    let halves = and_parts (is_ascii_digit byte) (list_all is_ascii_digit (drop (i + 1) word)) (rw is (sym (at_drop_more (list_all is_ascii_digit) word i 0 within) ∙ all)) in
    let low : 48 ≤ byte = digit_low byte halves.0 in
    let high : byte ≤ 57 = digit_high byte halves.0 in
    let number = at_drop_more (digits_value_after 10 value) word i 0 within
    ∙ ap (λ d. digits_value_after 10 (value * 10 + d) (drop (i + 1) word)) (ap digit_value (sym is) ∙ digit_is byte low high) in
    record {
      low = low;
      high = high;
      rest = halves.1;
      number = number;
      least = omega (arith, number, le-digits_value_after (value * 10 + (byte - 48)) (drop (i + 1) word));
    }

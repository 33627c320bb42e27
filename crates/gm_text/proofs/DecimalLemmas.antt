-- The decimals that `decimal` writes are the canonical ones, and each is that of its value.
use Rattle.std.proofs.Common.{◌≡◌, ℕ, ◌^◌, ◌<◌, ◌≤◌, true, List, length, get_or, sym, ap, subst, ◌∙◌, arith, rules, decimal, zero, suc, inl, inr, Result, Ok, Err}
use Rattle.std.proofs.lemmas.Bool.Decides.{nat_tests}
use Rattle.std.proofs.lemmas.Bool.{cases_lt}
use Rattle.std.specs.List.{list_all}
use Rattle.std.specs.Char.{is_ascii_digit}
use Rattle.std.specs.Str.{IsUtf8}
use Rattle.std.specs.Str.Parse.{digits_value, ParsesUnsigned}
use Rattle.std.proofs.lemmas.Str.Parse.{IsDigitsTest, IsNumeralModel, numerals_by_value, parse_digits}
use Rattle.std.proofs.lemmas.Fmt.{digits_decimal, decimal_is_IsNumeral, first_decimal, decimal_digit, decimal-digits_value, IsAscii-from_digits}
use Rattle.std.proofs.lemmas.Str.{IsUtf8-from_ascii}
use Rattle.std.specs.Result.{OkIff}
use Rattle.gm_text.specs.Decimal.{IsCanonical}

abbrev AreDigits : List ℕ → Type 0
AreDigits word = list_all is_ascii_digit word ≡ true

tells_digits : IsDigitsTest AreDigits
tells_digits = search rules

-- the test of digits, with std's value
numerals : IsNumeralModel AreDigits (digits_value 10)
numerals = numerals_by_value AreDigits tells_digits

-- what the test of a canonical word says
record Canonical (word : List ℕ) : Type 0 where
  some : 0 < length word
  alone : get_or word 0 0 ≡ 48 → length word ≡ 1
  digits : AreDigits word

canonical_parts : (word : List ℕ) → IsCanonical word → Canonical word
canonical_parts word h = record { some = grind (arith, nat_tests); alone = grind (arith, nat_tests); digits = grind (arith, nat_tests) }

canonical_whole : (word : List ℕ) → Canonical word → IsCanonical word
canonical_whole word h = grind (arith, nat_tests)

pub canonical_is_utf8 : (word : List ℕ) → IsCanonical word → IsUtf8 word
canonical_is_utf8 word h = IsUtf8-from_ascii word (IsAscii-from_digits word (numerals.to word (canonical_parts word h).digits))

-- `0` stands first in the decimal of 0 alone
decimal_alone : (n : ℕ) → n < 2 ^ 64 → get_or (decimal n) 0 0 ≡ 48 → length (decimal n) ≡ 1
decimal_alone zero small first = ap length (decimal_digit 0 (omega arith))
decimal_alone (suc n) small first = absurd (omega (arith, first_decimal (suc n) (omega arith) small))

pub decimal_is_canonical : (n : ℕ) → n < 2 ^ 64 → IsCanonical (decimal n)
decimal_is_canonical n small = canonical_whole (decimal n)
    (record { some = (decimal_is_IsNumeral n small).0.0; alone = decimal_alone n small; digits = digits_decimal numerals n small })

pub digits_value_decimal : (n : ℕ) → n < 2 ^ 64 → digits_value 10 (decimal n) ≡ n
digits_value_decimal n small = (decimal_is_IsNumeral n small).1

pub canonical_is_decimal : (word : List ℕ) → IsCanonical word → digits_value 10 word < 2 ^ 64 → word ≡ decimal (digits_value 10 word)
canonical_is_decimal word h small =
    let parts = canonical_parts word h in sym (decimal-digits_value numerals word parts.digits parts.some parts.alone small)

module _ (text word : List ℕ) (same : text ≡ word) (h : IsCanonical word) where
  parts : Canonical word
  parts = canonical_parts word h

  parsed : (r : Result ℕ ℕ) → ParsesUnsigned 64 10 text r → OkIff r ((0 < length word) × (digits_value 10 word < 2 ^ 64)) (digits_value 10 word)
  parsed r p = parse_digits numerals 64 word r (subst (λ bs. ParsesUnsigned 64 10 bs r) same p) parts.digits

  -- a number that is parsed from a canonical word has it as its decimal
  pub parsed_value : (n : ℕ) → ParsesUnsigned {E = ℕ} 64 10 text (Ok n) → (n < 2 ^ 64) × (word ≡ decimal n)
  parsed_value n p =
      let is : _ = parsed (Ok n) p in
      (omega (arith, is.0.1, is.1), canonical_is_decimal word h is.0.1 ∙ ap decimal (sym is.1))

  -- where none is parsed, the value does not fit
  pub parsed_big : ParsesUnsigned {E = ℕ} 64 10 text (Err 0) → 2 ^ 64 ≤ digits_value 10 word
  parsed_big p = elim (cases_lt (digits_value 10 word) (2 ^ 64)) [ inl small ↦ absurd (parsed (Err 0) p (parts.some, small)) | inr big ↦ big ]

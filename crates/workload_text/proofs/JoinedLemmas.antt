-- The words of a conjunct are told by each byte and the two before it.
use Rattle.std.proofs.Common.{◌≡◌, ℕ, ◌+◌, ◌<◌, Bool, true, false, ◌&&◌, ◌==◌, if◌then◌else◌, List, [], ◌∷◌, length, get_or, drop, inl, inr, refl, sym, ap, subst, ◌∙◌, arith}
use Rattle.std.specs.List.{list_all, slice_split, onto_first}
use Rattle.std.specs.Char.{is_ascii_digit}
use Rattle.std.proofs.lemmas.Bool.{cases_Bool, eqb-true}
use Rattle.std.proofs.lemmas.Bool.Decides.{nat_tests}
use Rattle.std.proofs.lemmas.List.{at_drop_more}
use Rattle.std.proofs.lemmas.List.Splits.{length-slice_split, slice_split-cons_no}
use Rattle.gm_text.specs.Decimal.{is_canonical}
use Rattle.gm_text.specs.Lines.{is_byte}
use Rattle.workload_text.specs.Forms.{is_symbol_word, is_path_word, is_union_word}
use Rattle.workload_text.specs.Joined.{is_joint, starts_number, fits, all_fit}

-- ---- parts of which the first is begun

-- the first passes a test, and the others another one
abbrev first_passes : (List ℕ → Bool) → (List ℕ → Bool) → List (List ℕ) → Bool
first_passes p q [] = true
first_passes p q (part ∷ parts) = p part && list_all q parts

first_passes-same : (p : List ℕ → Bool) (parts : List (List ℕ)) → first_passes p p parts ≡ list_all p parts
first_passes-same p [] = refl
first_passes-same p (part ∷ parts) = refl

first_passes-by : (p r q : List ℕ → Bool) → ((part : List ℕ) → p part ≡ r part) → (parts : List (List ℕ)) → first_passes p q parts ≡ first_passes r q parts
first_passes-by p r q same [] = refl
first_passes-by p r q same (part ∷ parts) = ap (λ b. b && list_all q parts) (same part)

first_passes-onto : (p q : List ℕ → Bool) (byte : ℕ) (parts : List (List ℕ)) → 0 < length parts
    → first_passes p q (onto_first byte parts) ≡ first_passes (λ part. p (byte ∷ part)) q parts
first_passes-onto p q byte [] some = absurd (omega arith)
first_passes-onto p q byte (part ∷ parts) some = refl

and_assoc : (a b c : Bool) → ((a && b) && c) ≡ (a && (b && c))
and_assoc a b c = grind arith

first_passes-and : (a : Bool) (p q : List ℕ → Bool) (parts : List (List ℕ)) → 0 < length parts
    → first_passes (λ part. a && p part) q parts ≡ (a && first_passes p q parts)
first_passes-and a p q [] some = absurd (omega arith)
first_passes-and a p q (part ∷ parts) some = and_assoc a (p part) (list_all q parts)

some_parts : (p : ℕ → Bool) (bytes : List ℕ) → 0 < length (slice_split p bytes)
some_parts p bytes = omega (arith, length-slice_split p bytes)

-- ---- a path, and words, of which the first symbol is begun: what is left of it passes a test

abbrev path_left : (List ℕ → Bool) → List ℕ → Bool
path_left p bytes = first_passes p is_symbol_word (slice_split (is_byte 46) bytes)

abbrev union_left : (List ℕ → Bool) → List ℕ → Bool
union_left p bytes = first_passes (path_left p) is_path_word (slice_split (is_byte 43) bytes)

path_left-other : (p : List ℕ → Bool) (byte : ℕ) (bytes : List ℕ) → is_byte 46 byte ≡ false → path_left p (byte ∷ bytes) ≡ path_left (λ rest. p (byte ∷ rest)) bytes
path_left-other p byte bytes other =
    ap (first_passes p is_symbol_word) (slice_split-cons_no (is_byte 46) byte bytes other)
    ∙ first_passes-onto p is_symbol_word byte (slice_split (is_byte 46) bytes) (some_parts (is_byte 46) bytes)

union_left-other : (p : List ℕ → Bool) (byte : ℕ) (bytes : List ℕ) → is_byte 46 byte ≡ false → is_byte 43 byte ≡ false
    → union_left p (byte ∷ bytes) ≡ union_left (λ rest. p (byte ∷ rest)) bytes
union_left-other p byte bytes no_dot no_plus =
    ap (first_passes (path_left p) is_path_word) (slice_split-cons_no (is_byte 43) byte bytes no_plus)
    ∙ (first_passes-onto (path_left p) is_path_word byte (slice_split (is_byte 43) bytes) (some_parts (is_byte 43) bytes)
    ∙ first_passes-by (λ part. path_left p (byte ∷ part)) (path_left (λ rest. p (byte ∷ rest))) is_path_word (λ part. path_left-other p byte part no_dot) (slice_split (is_byte 43) bytes))

union_left-and : (a : Bool) (p : List ℕ → Bool) (bytes : List ℕ) → union_left (λ rest. a && p rest) bytes ≡ (a && union_left p bytes)
union_left-and a p bytes =
    first_passes-by (path_left (λ rest. a && p rest)) (λ part. a && path_left p part) is_path_word
    (λ part. first_passes-and a p is_symbol_word (slice_split (is_byte 46) part) (some_parts (is_byte 46) part)) (slice_split (is_byte 43) bytes)
    ∙ first_passes-and a (path_left p) is_path_word (slice_split (is_byte 43) bytes) (some_parts (is_byte 43) bytes)

union_left-by : (p q : List ℕ → Bool) → ((rest : List ℕ) → p rest ≡ q rest) → (bytes : List ℕ) → union_left p bytes ≡ union_left q bytes
union_left-by p q same bytes =
    first_passes-by (path_left p) (path_left q) is_path_word (λ part. first_passes-by p q is_symbol_word same (slice_split (is_byte 46) part)) (slice_split (is_byte 43) bytes)

-- no symbol is begun
union_left-none : (bytes : List ℕ) → union_left is_symbol_word bytes ≡ is_union_word bytes
union_left-none bytes =
    first_passes-by (path_left is_symbol_word) is_path_word is_path_word (λ part. first_passes-same is_symbol_word (slice_split (is_byte 46) part)) (slice_split (is_byte 43) bytes)
    ∙ first_passes-same is_path_word (slice_split (is_byte 43) bytes)

and_once : (a b : Bool) → ((a && true) && b) ≡ (a && b)
and_once a b = grind arith

-- it ends before `+` and before `.`
union_left-plus : (p : List ℕ → Bool) (bytes : List ℕ) → union_left p (43 ∷ bytes) ≡ (p [] && is_union_word bytes)
union_left-plus p bytes = and_once (p []) (is_union_word bytes)

union_left-dot : (p : List ℕ → Bool) (bytes : List ℕ) → union_left p (46 ∷ bytes) ≡ (p [] && is_union_word bytes)
union_left-dot p bytes =
    first_passes-onto (path_left p) is_path_word 46 (slice_split (is_byte 43) bytes) (some_parts (is_byte 43) bytes)
    ∙ (first_passes-and (p []) is_path_word is_path_word (slice_split (is_byte 43) bytes) (some_parts (is_byte 43) bytes)
    ∙ ap (λ b. p [] && b) (first_passes-same is_path_word (slice_split (is_byte 43) bytes)))

-- ---- what may be left of a symbol after two bytes

abbrev left_after : ℕ → ℕ → List ℕ → Bool
left_after second before rest = if is_joint before then is_symbol_word rest
    else (if before == 94 then is_canonical rest
    else (if (before == 48) && starts_number second then length rest == 0
    else is_ascii_digit before && list_all is_ascii_digit rest))

left_after-none : (second before : ℕ) → left_after second before [] ≡ is_ascii_digit before
left_after-none second before = grind (arith, nat_tests)

left_after-dot : (second byte : ℕ) (rest : List ℕ) → is_byte 46 byte ≡ false → is_byte 43 byte ≡ false
    → left_after second 46 (byte ∷ rest) ≡ (fits second 46 byte && left_after 46 byte rest)
left_after-dot second byte rest no_dot no_plus = grind (arith, nat_tests)

left_after-plus : (second byte : ℕ) (rest : List ℕ) → is_byte 46 byte ≡ false → is_byte 43 byte ≡ false
    → left_after second 43 (byte ∷ rest) ≡ (fits second 43 byte && left_after 43 byte rest)
left_after-plus second byte rest no_dot no_plus = grind (arith, nat_tests)

left_after-mark : (second byte : ℕ) (rest : List ℕ) → is_byte 46 byte ≡ false → is_byte 43 byte ≡ false
    → left_after second 94 (byte ∷ rest) ≡ (fits second 94 byte && left_after 94 byte rest)
left_after-mark second byte rest no_dot no_plus = grind (arith, nat_tests)

left_after-zero : (second byte : ℕ) (rest : List ℕ) → is_byte 46 byte ≡ false → is_byte 43 byte ≡ false
    → left_after second 48 (byte ∷ rest) ≡ (fits second 48 byte && left_after 48 byte rest)
left_after-zero second byte rest no_dot no_plus = grind (arith, nat_tests)

left_after-other : (second before byte : ℕ) (rest : List ℕ) → is_byte 46 byte ≡ false → is_byte 43 byte ≡ false
    → is_joint before ≡ false → (before == 94) ≡ false → (before == 48) ≡ false
    → left_after second before (byte ∷ rest) ≡ (fits second before byte && left_after before byte rest)
left_after-other second before byte rest no_dot no_plus no_joint no_mark no_zero = grind (arith, nat_tests)

left_after-more : (second before byte : ℕ) (rest : List ℕ) → is_byte 46 byte ≡ false → is_byte 43 byte ≡ false
    → left_after second before (byte ∷ rest) ≡ (fits second before byte && left_after before byte rest)
left_after-more second before byte rest no_dot no_plus = elim (cases_Bool (before == 46)) [
  | inl dot ↦ subst Same (sym (eqb-true before 46 dot)) (left_after-dot second byte rest no_dot no_plus)
  | inr not_dot ↦ elim (cases_Bool (before == 43)) [
    | inl plus ↦ subst Same (sym (eqb-true before 43 plus)) (left_after-plus second byte rest no_dot no_plus)
    | inr not_plus ↦ elim (cases_Bool (before == 94)) [
      | inl mark ↦ subst Same (sym (eqb-true before 94 mark)) (left_after-mark second byte rest no_dot no_plus)
      | inr not_mark ↦ elim (cases_Bool (before == 48)) [
        | inl zero ↦ subst Same (sym (eqb-true before 48 zero)) (left_after-zero second byte rest no_dot no_plus)
        | inr not_zero ↦ left_after-other second before byte rest no_dot no_plus (rw (not_dot, not_plus) refl) not_mark not_zero
      ]
    ]
  ]
]
  where
    Same : ℕ → Type 0
    Same b = left_after second b (byte ∷ rest) ≡ (fits second b byte && left_after b byte rest)

and_trues : (a : Bool) → ((a && true) && true) ≡ a
and_trues a = grind arith

-- so the bytes fit exactly where what is left is words
all_fit-is : (second before : ℕ) (bytes : List ℕ) → all_fit second before bytes ≡ union_left (left_after second before) bytes
all_fit-is second before [] = sym (and_trues (left_after second before []) ∙ left_after-none second before)
all_fit-is second before (byte ∷ bytes) = elim (cases_Bool (is_byte 43 byte)) [
  | inl plus ↦ subst Fits (sym (eqb-true byte 43 plus)) (ended 43 (all_fit-is before 43 bytes ∙ union_left-none bytes) ∙ sym (union_left-plus (left_after second before) bytes))
  | inr no_plus ↦ elim (cases_Bool (is_byte 46 byte)) [
    | inl dot ↦ subst Fits (sym (eqb-true byte 46 dot)) (ended 46 (all_fit-is before 46 bytes ∙ union_left-none bytes) ∙ sym (union_left-dot (left_after second before) bytes))
    | inr no_dot ↦ ap (λ b. fits second before byte && b) (all_fit-is before byte bytes)
        ∙ sym (union_left-other (left_after second before) byte bytes no_dot no_plus
        ∙ (union_left-by (λ rest. left_after second before (byte ∷ rest)) (λ rest. fits second before byte && left_after before byte rest)
        (λ rest. left_after-more second before byte rest no_dot no_plus) bytes
        ∙ union_left-and (fits second before byte) (left_after before byte) bytes))
  ]
]
  where
    Fits : ℕ → Type 0
    Fits joint = all_fit second before (joint ∷ bytes) ≡ union_left (left_after second before) (joint ∷ bytes)

    ended : (joint : ℕ) → all_fit before joint bytes ≡ is_union_word bytes
        → (is_ascii_digit before && all_fit before joint bytes) ≡ (left_after second before [] && is_union_word bytes)
    ended joint rest =
        ap (λ b. is_ascii_digit before && b) rest ∙ ap (λ b. b && is_union_word bytes) (sym (left_after-none second before))

pub union_word-fits : (bytes : List ℕ) → is_union_word bytes ≡ all_fit 46 46 bytes
union_word-fits bytes = sym (all_fit-is 46 46 bytes ∙ union_left-none bytes)

-- one byte more
pub next_fits : (fit : Bool) (second before : ℕ) (bytes : List ℕ) (i : ℕ) → i < length bytes
    → (fit && all_fit second before (drop i bytes)) ≡ ((fit && fits second before (get_or bytes i 0)) && all_fit before (get_or bytes i 0) (drop (i + 1) bytes))
next_fits fit second before bytes i within =
    ap (λ b. fit && b) (at_drop_more (all_fit second before) bytes i 0 within)
    ∙ sym (and_assoc fit (fits second before (get_or bytes i 0)) (all_fit before (get_or bytes i 0) (drop (i + 1) bytes)))
